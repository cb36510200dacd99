-- Getting serves the house: it shows what is seen in one row or none, and then it has ended.
use Rattle.std.proofs.Common.{◌≡◌, ℕ, suc, ◌+◌, ◌*◌, ◌<◌, ◌≤◌, Bool, true, false, ◌&&◌, ltb, leb, List, [], ◌∷◌, ◌++◌, length, Some, None, Option, sym, refl, ap, ◌∙◌, subst, append-nil, arith, ltb-true, le-ltb, lt-ltb}
use Rattle.value.specs.Versions.{pick, every, each, Version, version, latest}
use Rattle.value.specs.Encoding.{fits}
use Rattle.value.specs.Encoding as enc
use Rattle.value.proofs.TestLaws.{and_left_of, and_right_of}
use Rattle.memtable.specs.Words.{bytes}
use Rattle.memtable.specs.Arena.{moment_at, gone_at, version_at}
use Rattle.memtable.specs.Holds.{as_list}
use Rattle.memtable.specs.Holds as mem
use Rattle.table.specs.Device.{Device, page_at}
use Rattle.table.specs.Blocks.{no_bound}
use Rattle.table.specs.Row.{octets}
use Rattle.table.specs.Lookup.{loaded, with_page}
use Rattle.table.specs.Lookup as table
use Rattle.table.specs.declared.lookup.Extent.{Extent}
use Rattle.table.specs.declared.lookup.Lookup.{Lookup}
use Rattle.store.specs.House.{House, get, a_key, refusal, after, shows, small_command, unsafe, core}
use Rattle.store.specs.Promise.{Event, said, page, next, done, tells, Step, World, world}
use Rattle.store.specs.Account.{Next, NextStep, leavings, TellsRight, nothing, part, StopLeaves, undone, Ends, finished, most_commands, Serves}
use Rattle.store.specs.Acts.{stepped}
use Rattle.flushing_store.specs.Control.{base, control_of, put_control, to_phase, stage_region, ring_of}
use Rattle.store.specs.Regions.{arena_of, sought}
use Rattle.flushing_store.specs.Stage.{staged}
use Rattle.flushing_store.specs.Look.{extent_of, looked, page_in, asked}
use Rattle.store.specs.Shown.{row_at, row_of}
use Rattle.flushing_store.specs.Get.{begun_get, got_below, told_of, got, shown_by, got_by, got_on}
use Rattle.flushing_store.specs.Own.{heard, went_on, paged_by, turned, own}
use Rattle.flushing_store.specs.declared.look.Looked.{Looked}
use Rattle.flushing_store.specs.declared.control.Phase.{Phase}
use Rattle.flushing_store.specs.declared.control.Phase.TheVariants.{Idle, Shown, Getting}
use Rattle.flushing_store.specs.declared.control.Control.{Control}
use Rattle.flushing_store.proofs.HeldLaws.{Held}
use Rattle.flushing_store.proofs.OwnAccount.{Rest, Looks, Gets, begun, looking, shown, lookup_left, most_lookups}
use Rattle.flushing_store.proofs.WholeAccount.{account}
use Rattle.store.proofs.RunLaws.{next_by}
use Rattle.flushing_store.proofs.StepLaws.{step_is, rest_stops, said_more}
use Rattle.flushing_store.proofs.StageLaws.{stage_is}
use Rattle.flushing_store.proofs.LookLaws.{ProbeRight, goes, none, begun_right, LookRight, on, missing, found, spans}
use Rattle.flushing_store.proofs.LookServes.{fresh_is, control_staged, held_staged, page_in_cut, control_in, stage_in, held_phase, Asks, asks, falls, key_same, held_took, asks_more, asks_on, all_looked}
use Rattle.flushing_store.proofs.GotLaws.{latest_has, no_key_none, row_is, row_at_is, shows_none, shows_gone, shows_one, memory_first, table_then, found_is}

abbrev is_byte : ℕ → Bool
is_byte b = ltb b 256

module _ (key : List ℕ) (s : ℕ) where
  get_bytes : small_command (get key s) ≡ true → bytes key ≡ true
  unfolding small_command
  get_bytes g = and_left_of (every is_byte key) (ltb s 18446744073709551616) (and_right_of (leb (length key) 4096) (every is_byte key && ltb s 18446744073709551616) g)

  get_moment : small_command (get key s) ≡ true → s < 18446744073709551616
  unfolding small_command
  get_moment g = ltb-true s 18446744073709551616 (and_right_of (every is_byte key) (ltb s 18446744073709551616) (and_right_of (leb (length key) 4096) (every is_byte key && ltb s 18446744073709551616) g))

  -- no moment is below which nobody asks
  not_refused : (h : House) → h.low ≡ 0 → refusal h (get key s) ≡ 0
  unfolding refusal
  not_refused h e = rw (e, le-ltb s 0 (omega arith)) refl

  known_get : core (get key s) ≡ true
  unfolding core
  known_get = refl

  rest_after : (n pages : ℕ) (h : House) (w : World) → Rest n pages h Idle w → Rest (suc n) pages (after h (get key s)) Idle w
  unfolding after
  rest_after n pages h w r = said_more n pages h Idle w r

  module _ (n pages : ℕ) (h : House) (d : Device) (ts : List (List ℕ)) (t : ts ≡ []) (μ : ℕ) (low : h.low ≡ 0) where
    abbrev Goes : Step → Type 0
    Goes x = Next (account.Busy n pages h (get key s)) (Ends core account n pages h (get key s)) d ts x.memory μ x.act

    -- the three ways to go on
    ends_none : (x : Step) (m : List ℕ) → x ≡ stepped m done → Rest n pages h Idle (world d m) → shows h (get key s) ≡ [] → Goes x
    ends_none x m q r e = subst Goes (sym q) (finished known_get (not_refused h low) refl (t ∙ sym e) (rest_after n pages h (world d m) r))

    ends_row : (x : Step) (m row : List ℕ) → x ≡ stepped m (tells row) → Rest n pages h Shown (world d m) → shows h (get key s) ≡ row ∷ [] → leb (length row) 1280 ≡ true → 0 < μ → Goes x
    ends_row x m row q r e l p = subst Goes (sym q) (0, p, l, shown r refl (ap (λ y. y ++ row ∷ []) t ∙ sym e) refl)

    goes_on : (x : Step) (m₁ : List ℕ) (ν : ℕ) → Asks n pages h Getting key s d m₁ x ν → ν < μ → s < 18446744073709551616 → bytes key ≡ true → latest (unsafe h) key s ≡ [] → moment_at (stage_region m₁) 0 ≡ s → Goes x
    goes_on x m₁ ν a l sm b e mo =
        subst Goes (sym a.is)
        (ν, l, looking a.rest sm b (ap (λ y. latest y key s) (fresh_is pages h a.rest.list Getting a.memory a.rest.held) ∙ e) (ap (λ ws. moment_at ws 0) a.stage_same ∙ mo) a.looks t)

  -- IT IS SAID
  module _ (n pages : ℕ) (h : House) (w : World) (ts : List (List ℕ)) (t : ts ≡ []) (μ : ℕ) (r : Rest n pages h Idle w) (g : small_command (get key s) ≡ true) (z : μ ≡ most_lookups r.list) where
    abbrev k : Control
    k = control_of w.memory

    abbrev m : List ℕ
    m = w.memory

    abbrev G : Step → Type 0
    G x = Goes n pages h w.device ts t μ r.held.none_low x

    abbrev v : Version
    v = version key s false []

    fits_v : a_key key ≡ true → mem.fits v ≡ true
    unfolding mem.fits every
    fits_v a = rw (and_left_of (leb 1 (length key)) (leb (length key) 255) a, and_right_of (leb 1 (length key)) (leb (length key) 255) a, get_bytes g, lt-ltb s 18446744073709551616 (get_moment g)) refl

    abbrev x : Extent
    x = extent_of r.list

    -- the table is looked through
    begins : a_key key ≡ true → latest r.held.fresh key s ≡ [] → (o : Option Lookup) →
        ProbeRight x w.device.pages h.safe key s r.stored.there (omega (arith, get_moment g)) (8 * x.blocks + 8) o → G (begun_get k m key s o)
    begins a e o (none q y) =
        subst (λ u. G (begun_get k m key s u)) (sym q)
        (ends_none n pages h w.device ts t μ r.held.none_low (stepped m done) m refl r (shows_none h key s (table_then h key s r.held.fresh r.held.all_is e ∙ y)))
    begins a e o (goes l q small z₀ left y) =
        let st = stage_is v m r.held.long (fits_v a) in
        let o₁ = held_staged pages h r.list Idle m v r.held in
        let (s1, s2, s3) = spans x w.device.pages h.safe key s r.stored.there (omega (arith, get_moment g)) l (ring_of (staged v m)) (y (ring_of (staged v m))) in
        subst (λ u. G (begun_get k m key s u)) (sym q)
        (goes_on n pages h w.device ts t μ r.held.none_low (asked (to_phase k Getting) (staged v m) l) (staged v m) (lookup_left l)
        (asks n pages h Idle Getting key s w.device r.list (staged v m) r.commits r.quiet r.stored o₁ (omega (arith, get_moment g)) (to_phase k Getting) l
        (ap (λ b. base Getting b.pages b.last b.table) (sym (ap (λ c. c.base) (control_staged v m r.held.long)) ∙ o₁.base_is)) r.held.manifest_is small (omega arith) (y (ring_of (staged v m))) st.key)
        (omega arith) (get_moment g) (get_bytes g) (ap (λ us. latest us key s) (sym (fresh_is pages h r.list Idle m r.held)) ∙ e) st.moment)

    below : latest r.held.fresh key s ≡ [] → G (got_below k m key s)
    unfolding got_below
    below e = go (a_key key) refl
      where
        go : (b : Bool) → a_key key ≡ b → G (pick b (begun_get k m key s (table.begun (extent_of k.manifest))) (stepped m done))
        go false a =
            ends_none n pages h w.device ts t μ r.held.none_low (stepped m done) m refl r
            (shows_none h key s (table_then h key s r.held.fresh r.held.all_is e ∙ no_key_none h.safe key s r.stored.fit a))
        go true a =
            subst (λ f. G (begun_get k m key s (table.begun (extent_of f)))) (sym r.held.manifest_is)
            (begins a e (table.begun x) (begun_right x w.device.pages h.safe key s r.stored.there (omega (arith, get_moment g))))

    told : (o : Option ℕ) → each (version_at (arena_of m)) (as_list o) ≡ latest r.held.fresh key s → G (told_of k m key s o)
    unfolding told_of each version_at
    told None e = below (sym e)
    told (Some p) e = go (gone_at (arena_of m) p) refl
      where
        is : latest h.versions key s ≡ version_at (arena_of m) p ∷ []
        is = memory_first h key s r.held.fresh r.held.all_is (version_at (arena_of m) p) (sym e)

        go : (b : Bool) → gone_at (arena_of m) p ≡ b → G (pick b (stepped m done) (stepped (put_control m (to_phase k Shown)) (tells (row_at (arena_of m) p))))
        go true b = ends_none n pages h w.device ts t μ r.held.none_low (stepped m done) m refl r (shows_gone h key s (version_at (arena_of m) p) is b)
        go false b =
            let (row, l) = row_at_is (arena_of m) p (latest_has mem.fits r.held.fresh key s (version_at (arena_of m) p) (sym e) r.held.holds.fit) in
            ends_row n pages h w.device ts t μ r.held.none_low (stepped (put_control m (to_phase k Shown)) (tells (row_at (arena_of m) p))) (put_control m (to_phase k Shown)) (row_at (arena_of m) p) refl
            record { list = r.list; commits = r.commits; quiet = r.quiet; stored = r.stored; held = held_phase pages h r.list Idle Shown m k refl r.held }
            (shows_one h key s (version_at (arena_of m) p) is b ∙ ap (λ y. y ∷ []) (sym row)) l (omega arith)

    said_goes : G (got k m key s)
    unfolding got
    said_goes = told (sought k.base.table m key s) (found_is pages h r.list Idle m key s r.held (get_bytes g))

  -- A PAGE CAME
  module _ (n pages : ℕ) (h : House) (w : World) (ev : Event) (ts : List (List ℕ)) (t : ts ≡ []) (μ : ℕ) (r : Rest n pages h Getting w) (sm : s < 18446744073709551616) (b : bytes key ≡ true)
      (none_fresh : latest r.held.fresh key s ≡ []) (mo : moment_at (stage_region w.memory) 0 ≡ s) (lk : Looks h r.list w key s ev μ) where
    abbrev x₀ : Extent
    x₀ = extent_of r.list

    abbrev c : Control
    c = control_of w.memory

    abbrev l : Lookup
    l = c.lookup

    abbrev came : List ℕ
    came = page_at w.device.pages (l.load.span.page + l.load.got)

    abbrev m₁ : List ℕ
    m₁ = page_in l came w.memory

    abbrev l₁ : Lookup
    l₁ = with_page l

    abbrev row : List ℕ
    row = octets 2016 (ring_of m₁)

    abbrev H : Step → Type 0
    H x = Goes n pages h w.device ts t μ r.held.none_low x

    small_s : s ≤ no_bound
    small_s = omega arith

    -- the step, by the page as it is
    step_got : own.step w.memory ev ≡ got_on c w.memory (octets 512 came)
    unfolding turned paged_by
    step_got =
        ap (own.step w.memory) lk.event ∙ step_is w.memory (page came) r.held.long
        ∙ ap (λ q. paged_by c w.memory (octets 512 came) q) (ap (λ y. y.phase) r.held.base_is)

    moment_same : moment_at (stage_region m₁) 0 ≡ s
    moment_same = ap (λ ws. moment_at ws 0) (stage_in l came w.memory r.held.long) ∙ mo

    none_unsafe : latest (unsafe h) key s ≡ []
    none_unsafe = ap (λ us. latest us key s) (sym (fresh_is pages h r.list Getting w.memory r.held)) ∙ none_fresh

    took : Held pages h r.list Getting m₁
    took = held_took n pages h Getting w key s ev μ r lk small_s

    rest_in : (q : Phase) → Rest n pages h q (world w.device (put_control m₁ (to_phase c q)))
    rest_in q = record { list = r.list; commits = r.commits; quiet = r.quiet; stored = r.stored; held = held_phase pages h r.list Getting q m₁ c (sym (control_in l came w.memory r.held.long)) took }

    -- what the table has
    shows_by : (o : Looked) → LookRight x₀ w.device.pages h.safe key s r.stored.there small_s l₁ row o → H (shown_by c m₁ l₁ row o)
    unfolding shown_by
    shows_by o (on nxt q small z left y) =
        subst (λ u. H (shown_by c m₁ l₁ row u)) (sym q)
        (goes_on n pages h w.device ts t μ r.held.none_low (asked c m₁ nxt) m₁ (lookup_left nxt) (asks_on n pages h Getting w key s ev μ r lk small_s nxt small z y)
        (let f = falls n pages h Getting w key s ev μ r lk small_s in omega arith) sm b none_unsafe moment_same)
    shows_by o (missing q e) =
        subst (λ u. H (shown_by c m₁ l₁ row u)) (sym q)
        (ends_none n pages h w.device ts t μ r.held.none_low (stepped (put_control m₁ (to_phase c Idle)) done) (put_control m₁ (to_phase c Idle)) refl (rest_in Idle)
        (shows_none h key s (table_then h key s r.held.fresh r.held.all_is none_fresh ∙ e)))
    shows_by o (found p q e) = subst (λ u. H (shown_by c m₁ l₁ row u)) (sym q) (go p.gone refl)
      where
        is : latest h.versions key s ≡ enc.version_at (loaded l₁ row) p ∷ []
        is = table_then h key s r.held.fresh r.held.all_is none_fresh ∙ e

        go : (y : Bool) → p.gone ≡ y →
            H (pick y (stepped (put_control m₁ (to_phase c Idle)) done) (stepped (put_control m₁ (to_phase c Shown)) (tells (row_of (enc.key_at (loaded l₁ row) p) (enc.value_at (loaded l₁ row) p)))))
        go true y =
            ends_none n pages h w.device ts t μ r.held.none_low (stepped (put_control m₁ (to_phase c Idle)) done) (put_control m₁ (to_phase c Idle)) refl (rest_in Idle)
            (shows_gone h key s (enc.version_at (loaded l₁ row) p) is y)
        go false y =
            let (rw₁, ln) = row_is (enc.key_at (loaded l₁ row) p) (enc.value_at (loaded l₁ row) p) (enc.version_at (loaded l₁ row) p) (latest_has fits h.safe key s (enc.version_at (loaded l₁ row) p) e r.stored.fit) refl refl in
            let f = falls n pages h Getting w key s ev μ r lk small_s in
            ends_row n pages h w.device ts t μ r.held.none_low _ (put_control m₁ (to_phase c Shown)) (row_of (enc.key_at (loaded l₁ row) p) (enc.value_at (loaded l₁ row) p)) refl (rest_in Shown)
            (shows_one h key s (enc.version_at (loaded l₁ row) p) is y ∙ ap (λ u. u ∷ []) (sym rw₁)) ln (omega arith)

    got_by_is : got_by c m₁ l₁ ≡ shown_by c m₁ l₁ row (looked l₁ x₀ row key s)
    unfolding got_by
    got_by_is = λ i. shown_by c m₁ l₁ row (looked l₁ (extent_of (r.held.manifest_is i)) row (key_same n pages h Getting w key s ev μ r lk small_s i) (moment_same i))

    page_goes : H (got_on c w.memory (octets 512 came))
    unfolding got_on
    page_goes =
        subst (λ y. H (pick (ltb l₁.load.got l.load.span.pages) (asked c y l₁) (got_by c y l₁))) (sym (page_in_cut w.device.pages (l.load.span.page + l.load.got) l w.memory r.stored.all_pages))
        (go (ltb l₁.load.got l.load.span.pages) refl)
      where
        go : (y : Bool) → ltb l₁.load.got l.load.span.pages ≡ y → H (pick y (asked c m₁ l₁) (got_by c m₁ l₁))
        go true e =
            goes_on n pages h w.device ts t μ r.held.none_low (asked c m₁ l₁) m₁ (lookup_left l₁) (asks_more n pages h Getting w key s ev μ r lk small_s e)
            (falls n pages h Getting w key s ev μ r lk small_s) sm b none_unsafe moment_same
        go false e = subst H (sym got_by_is) (shows_by (looked l₁ x₀ row key s) (all_looked n pages h Getting w key s ev μ r lk small_s e))

  -- after the row, done
  went_is : (n pages : ℕ) (h : House) (w : World) (r : Rest n pages h Shown w) → own.step w.memory next ≡ stepped (put_control w.memory (to_phase (control_of w.memory) Idle)) done
  unfolding turned went_on
  went_is n pages h w r =
      step_is w.memory next r.held.long ∙ ap (λ q. went_on (control_of w.memory) w.memory q) (ap (λ y. y.phase) r.held.base_is)

  heard_is : (m : List ℕ) → turned (control_of m) m (said (get key s)) ≡ got (control_of m) m key s
  unfolding turned heard
  heard_is m = refl

  pub get_serves : Serves core own account (get key s)
  get_serves = record {
    hears = λ n pages h w b g i. (most_lookups i.list, begun i g refl refl refl);
    works_on = works;
    tells_right = told_right;
    stop_leaves = stops;
  }
    where
      works : (n pages : ℕ) (h : House) (w : World) (ev : Event) (ts : List (List ℕ)) (μ : ℕ) → n < most_commands → Gets n pages h key s w ev ts μ →
          NextStep own (account.Busy n pages h (get key s)) (Ends core account n pages h (get key s)) w ev ts μ
      works n pages h w ev ts μ b (begun r g e t z) =
          next_by own (account.Busy n pages h (get key s)) (Ends core account n pages h (get key s)) w ev ts μ (got (control_of w.memory) w.memory key s)
          (ap (own.step w.memory) e ∙ step_is w.memory (said (get key s)) r.held.long ∙ heard_is w.memory) (said_goes n pages h w ts t μ r g z)
      works n pages h w ev ts μ b (looking r sm y nf mo lk t) =
          next_by own (account.Busy n pages h (get key s)) (Ends core account n pages h (get key s)) w ev ts μ _ (step_got n pages h w ev ts t μ r sm y nf mo lk) (page_goes n pages h w ev ts t μ r sm y nf mo lk)
      works n pages h w ev ts μ b (shown r e t z) =
          next_by own (account.Busy n pages h (get key s)) (Ends core account n pages h (get key s)) w ev ts μ (stepped (put_control w.memory (to_phase (control_of w.memory) Idle)) done)
          (ap (own.step w.memory) e ∙ went_is n pages h w r)
          (finished known_get (not_refused h r.held.none_low) refl t
          (rest_after n pages h _ record { list = r.list; commits = r.commits; quiet = r.quiet; stored = r.stored; held = held_phase pages h r.list Shown Idle w.memory (control_of w.memory) refl r.held }))

      told_right : (n pages : ℕ) (h : House) (w : World) (ev : Event) (ts : List (List ℕ)) (μ : ℕ) → n < most_commands → Gets n pages h key s w ev ts μ → TellsRight core h (get key s) ts
      told_right n pages h w ev ts μ b (begun r g e t z) = nothing t
      told_right n pages h w ev ts μ b (looking r sm y nf mo lk t) = nothing t
      told_right n pages h w ev ts μ b (shown r e t z) = part known_get (not_refused h r.held.none_low) [] (sym t ∙ sym (append-nil ts))

      stops : (n pages : ℕ) (h : House) (w : World) (ev : Event) (ts : List (List ℕ)) (μ : ℕ) → n < most_commands → Gets n pages h key s w ev ts μ →
          (cs : List ℕ) → StopLeaves core account n pages h (get key s) (leavings w cs)
      stops n pages h w ev ts μ b (begun r g e t z) cs = undone (rest_stops (suc n) pages h Idle w (said_more n pages h Idle w r) cs)
      stops n pages h w ev ts μ b (looking r sm y nf mo lk t) cs = undone (rest_stops (suc n) pages h Getting w (said_more n pages h Getting w r) cs)
      stops n pages h w ev ts μ b (shown r e t z) cs = undone (rest_stops (suc n) pages h Shown w (said_more n pages h Shown w r) cs)
