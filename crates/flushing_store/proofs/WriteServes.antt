-- Writing and erasing serve the house: all checks but the table's at once, then page by page whether the table has the key at the moment, and the version goes in.
use Rattle.std.proofs.Common.{◌≡◌, ℕ, suc, ◌+◌, ◌*◌, ◌%◌, ◌<◌, ◌≤◌, Bool, true, false, not, ◌&&◌, eqb, ltb, leb, List, [], ◌∷◌, ◌++◌, length, None, Option, sym, refl, ap, ◌∙◌, subst, inl, inr, arith, ltb-false, ltb-true, le-ltb, lt-ltb, eqb-true, le-leb}
use borrow.Author.Tests.{eqb-false}
use Rattle.value.specs.Versions.{pick, or, every, any, Version, version, latest, weight}
use Rattle.value.specs.Encoding.{fits}
use Rattle.value.specs.Encoding as enc
use Rattle.value.proofs.LatestLaws.{latest_any}
use Rattle.value.proofs.TestLaws.{and_left_of, and_right_of, any_append}
use Rattle.memtable.specs.Words.{bytes}
use Rattle.memtable.specs.Arena.{moment_at}
use Rattle.table.specs.Device.{Device, page_at}
use Rattle.table.specs.Blocks.{no_bound}
use Rattle.table.specs.Row.{octets}
use Rattle.table.specs.Lookup.{loaded, with_page}
use Rattle.table.specs.Lookup as table
use Rattle.table.specs.declared.lookup.Extent.{Extent}
use Rattle.table.specs.declared.lookup.Lookup.{Lookup}
use Rattle.store.specs.House.{House, Command, write, erase, a_key, refusal, after, shows, written, written_then, unsafe, full_by, RefusedToo, small_command, core}
use Rattle.store.specs.Promise.{Event, said, page, refused, Step, World, world}
use Rattle.store.specs.Account.{Next, NextStep, leavings, TellsRight, StopLeaves, Ends, rejected, no_room, finished, nothing, undone, Serves}
use Rattle.store.specs.Acts.{stepped}
use Rattle.flushing_store.specs.Control.{base, control_of, put_control, to_phase, stage_region, ring_of}
use Rattle.store.specs.Regions.{wrap}
use Rattle.flushing_store.specs.Stage.{staged, version_of, staged_version}
use Rattle.flushing_store.specs.Look.{extent_of, looked, page_in, asked}
use Rattle.flushing_store.specs.Write.{accepted, begun_write, sought_below, wrote, written_by, wrote_by, wrote_on}
use Rattle.flushing_store.specs.Write as writing
use Rattle.flushing_store.specs.Own.{heard, paged_by, turned, own}
use Rattle.flushing_store.specs.declared.look.Looked.{Looked}
use Rattle.flushing_store.specs.declared.control.Phase.TheVariants.{Idle, Writing}
use Rattle.flushing_store.specs.declared.control.Control.{Control}
use Rattle.flushing_store.proofs.RegionLaws.{region_put}
use Rattle.flushing_store.proofs.HeldLaws.{Held}
use Rattle.flushing_store.proofs.OwnAccount.{Rest, Looks, Writes, begun, looking, lookup_left, most_lookups}
use Rattle.flushing_store.proofs.WholeAccount.{account}
use Rattle.store.proofs.RunLaws.{next_by}
use Rattle.store.proofs.RisingLaws.{written_at}
use Rattle.flushing_store.proofs.StepLaws.{step_is, rest_stops, said_more}
use Rattle.flushing_store.proofs.StageLaws.{Staged, stage_is}
use Rattle.flushing_store.proofs.LookLaws.{ProbeRight, goes, none, begun_right, LookRight, on, missing, found, spans}
use Rattle.flushing_store.proofs.LookServes.{held_phase, table_phase, control_staged, held_staged, page_in_cut, control_in, stage_in, Asks, asks, falls, key_same, held_took, asks_more, asks_on, all_looked}
use Rattle.flushing_store.proofs.WrittenLaws.{none_above, none_seen, earlier_seen}
use Rattle.flushing_store.proofs.WroteLaws.{version_refusal, Outcome, rejected_by, too_heavy, too_full, taken_in, fits_memory, fits_from, fits_checks, accepted_outcome}

-- what a command that writes a version owes, by that version
pub record Gives (c : Command) (v : Version) : Type 0 where
  pub is_known : core c ≡ true
  pub refuses : (h : House) → refusal h c ≡ version_refusal h v
  pub leaves : (h : House) → after h c ≡ written h v
  pub shows_none : (h : House) → shows h c ≡ []
  pub hears_it : (m : List ℕ) → turned (control_of m) m (said c) ≡ wrote (control_of m) m v
  pub heavy : (h : House) (pages : ℕ) → ltb 1048576 (weight (unsafe (written h v))) ≡ true → RefusedToo h pages c 7
  pub full : (h : House) (pages : ℕ) → full_by (written h v) pages ≡ true → ltb 1048576 (weight (unsafe (written h v))) ≡ false → RefusedToo h pages c 8
  pub key_bytes : small_command c ≡ true → bytes v.key ≡ true
  pub value_bytes : small_command c ≡ true → bytes v.value ≡ true
  pub gone_empty : or (not v.gone) (eqb (length v.value) 0) ≡ true
  pub busy : (n pages : ℕ) (h : House) (w : World) (ev : Event) (ts : List (List ℕ)) (μ : ℕ) → Writes n pages h c v w ev ts μ → account.Busy n pages h c w ev ts μ
  pub within : (n pages : ℕ) (h : House) (w : World) (ev : Event) (ts : List (List ℕ)) (μ : ℕ) → account.Busy n pages h c w ev ts μ → Writes n pages h c v w ev ts μ

-- THE PATHS through the first checks
module _ (k : Control) (m : List ℕ) (v : Version) where
  no_key : a_key v.key ≡ false → wrote k m v ≡ stepped m (refused 6)
  unfolding wrote
  no_key e = rw e refl

  module _ (e : a_key v.key ≡ true) where
    no_value : leb (length v.value) 1024 ≡ false → wrote k m v ≡ stepped m (refused 6)
    unfolding wrote
    no_value f = rw (e, f) refl

    module _ (f : leb (length v.value) 1024 ≡ true) where
      no_moment : ltb v.moment 9223372036854775808 ≡ false → wrote k m v ≡ stepped m (refused 6)
      unfolding wrote
      no_moment g = rw (e, f, g) refl

      module _ (g : ltb v.moment 9223372036854775808 ≡ true) where
        earlier : ltb v.moment k.base.last ≡ true → wrote k m v ≡ stepped m (refused 3)
        unfolding wrote
        earlier a = rw (e, f, g, a) refl

        passes : ltb v.moment k.base.last ≡ false → wrote k m v ≡ begun_write k m v (sought_below k v.moment)
        unfolding wrote
        passes a = rw (e, f, g, a) refl

module _ (c : Command) (v : Version) (W : Gives c v) where
  module _ (n pages : ℕ) (h : House) (d : Device) (ts : List (List ℕ)) (t : ts ≡ []) (μ : ℕ) where
    abbrev Goes : Step → Type 0
    Goes x = Next (account.Busy n pages h c) (Ends core account n pages h c) d ts x.memory μ x.act

    -- it has ended
    ends_so : (m : List ℕ) (s : Step) (r : Rest n pages h Idle (world d m)) → Outcome pages h r.list m v s → Goes s
    ends_so m s r (rejected_by k q a b e) =
        subst Goes (sym q) (rw (le-leb 1 k a, lt-ltb k 1000 b) refl, rejected W.is_known (omega (arith, W.refuses h)) (sym (W.refuses h ∙ e)) t (said_more n pages h Idle (world d m) r))
    ends_so m s r (too_heavy q z x) = subst Goes (sym q) (refl, no_room W.is_known (W.refuses h ∙ z) (W.heavy h pages x) t (said_more n pages h Idle (world d m) r))
    ends_so m s r (too_full q z x y) = subst Goes (sym q) (refl, no_room W.is_known (W.refuses h ∙ z) (W.full h pages x y) t (said_more n pages h Idle (world d m) r))
    ends_so m s r (taken_in m₁ q z x) =
        subst Goes (sym q) (finished W.is_known (W.refuses h ∙ z) refl (t ∙ sym (W.shows_none h))
        (subst (λ y. Rest (suc n) pages y Idle (world d m₁)) (sym (W.leaves h)) record { list = r.list; commits = omega (arith, r.commits); quiet = r.quiet; stored = r.stored; held = x }))

    -- a page is asked for
    goes_on : (x : Step) (m₁ : List ℕ) (ν : ℕ) → Asks n pages h Writing v.key (suc v.moment) d m₁ x ν → ν < μ → fits v ≡ true → h.last ≤ v.moment → Staged v (stage_region m₁) → Goes x
    goes_on x m₁ ν a l f le st =
        subst Goes (sym a.is) (
          ν,
          l,
          W.busy n pages h (world d a.memory) _ ts ν
              (looking a.rest f le (ap (λ ws. version_of ws 0) a.stage_same ∙ st.whole) (ap (λ ws. moment_at ws 0) a.stage_same ∙ st.moment) a.looks t),
        )

  -- a moment that can be looked below
  moment_bound : fits v ≡ true → suc v.moment ≤ no_bound
  moment_bound f = let (a, b, g, e) = fits_checks v f in omega (arith, ltb-true v.moment 9223372036854775808 g)

  -- IT IS SAID
  module _ (n pages : ℕ) (h : House) (w : World) (ts : List (List ℕ)) (t : ts ≡ []) (μ : ℕ) (r : Rest n pages h Idle w) (g : small_command c ≡ true) (z : μ ≡ most_lookups r.list) where
    abbrev k : Control
    k = control_of w.memory

    abbrev m : List ℕ
    m = w.memory

    abbrev x : Extent
    x = extent_of r.list

    abbrev G : Step → Type 0
    G s = Goes n pages h w.device ts t μ s

    said_ends : (s : Step) → Outcome pages h r.list m v s → G s
    said_ends s o = ends_so n pages h w.device ts t μ m s r o

    module _ (f : fits v ≡ true) (le : h.last ≤ v.moment) where
      accepts_it : any (written_at v.key v.moment) h.safe ≡ false → G (accepted k m v)
      accepts_it e = said_ends (accepted k m v) (accepted_outcome pages h r.list m v r.held f r.stored.weighs k r.held.base_is r.held.manifest_is le e)

      begins : (o : Option Lookup) → ProbeRight x w.device.pages h.safe v.key (suc v.moment) r.stored.there (moment_bound f) (8 * x.blocks + 8) o → G (begun_write k m v o)
      begins o (none q y) = subst (λ u. G (begun_write k m v u)) (sym q) (accepts_it (none_seen h.safe v.key v.moment y))
      begins o (goes l q small z₀ left y) =
          let st = stage_is v m r.held.long (fits_memory v f) in
          let o₁ = held_staged pages h r.list Idle m v r.held in
          let (s1, s2, s3) = spans x w.device.pages h.safe v.key (suc v.moment) r.stored.there (moment_bound f) l (ring_of (staged v m)) (y (ring_of (staged v m))) in
          subst (λ u. G (begun_write k m v u)) (sym q)
          (goes_on n pages h w.device ts t μ (asked (to_phase k Writing) (staged v m) l) (staged v m) (lookup_left l)
          (asks n pages h Idle Writing v.key (suc v.moment) w.device r.list (staged v m) r.commits r.quiet r.stored o₁ (moment_bound f) (to_phase k Writing) l
          (ap (λ b. base Writing b.pages b.last b.table) (sym (ap (λ y₁. y₁.base) (control_staged v m r.held.long)) ∙ o₁.base_is)) r.held.manifest_is small (omega arith) (y (ring_of (staged v m))) st.key)
          (omega arith) f le st)

      looks_below : G (begun_write k m v (sought_below k v.moment))
      looks_below =
          subst (λ y. G (begun_write k m v (pick (ltb y.moments.last v.moment) None (table.begun (extent_of y))))) (sym r.held.manifest_is) (go (ltb r.list.moments.last v.moment) refl)
        where
          go : (b : Bool) → ltb r.list.moments.last v.moment ≡ b → G (begun_write k m v (pick b None (table.begun x)))
          go true e = accepts_it (none_above h.safe v.key v.moment (omega (arith, r.stored.last_is, ltb-true r.list.moments.last v.moment e)))
          go false e = begins (table.begun x) (begun_right x w.device.pages h.safe v.key (suc v.moment) r.stored.there (moment_bound f))

    said_goes : G (wrote k m v)
    said_goes =
        go (a_key v.key) refl (leb (length v.value) 1024) refl (ltb v.moment 9223372036854775808) refl (ltb v.moment h.last) refl
      where
        last_is : k.base.last ≡ h.last
        last_is = ap (λ y. y.last) r.held.base_is

        go : (a : Bool) → a_key v.key ≡ a → (b : Bool) → leb (length v.value) 1024 ≡ b → (e : Bool) → ltb v.moment 9223372036854775808 ≡ e → (y : Bool) → ltb v.moment h.last ≡ y → G (wrote k m v)
        go false a b pb e pe y py = said_ends _ (rejected_by 6 (no_key k m v a) (omega arith) (omega arith) (rw a refl))
        go true a false pb e pe y py = said_ends _ (rejected_by 6 (no_value k m v a pb) (omega arith) (omega arith) (rw (a, pb) refl))
        go true a true pb false pe y py = said_ends _ (rejected_by 6 (no_moment k m v a pb pe) (omega arith) (omega arith) (rw (a, pb, pe) refl))
        go true a true pb true pe true py =
            said_ends _ (rejected_by 3 (earlier k m v a pb pe (ap (ltb v.moment) last_is ∙ py)) (omega arith) (omega arith) (rw (a, pb, pe, py) refl))
        go true a true pb true pe false py =
            subst G (sym (passes k m v a pb pe (ap (ltb v.moment) last_is ∙ py)))
            (looks_below (fits_from v a pb pe W.gone_empty (W.key_bytes g) (W.value_bytes g)) (ltb-false v.moment h.last py))

  -- A PAGE CAME
  module _ (n pages : ℕ) (h : House) (w : World) (ev : Event) (ts : List (List ℕ)) (t : ts ≡ []) (μ : ℕ) (r : Rest n pages h Writing w) (f : fits v ≡ true) (le : h.last ≤ v.moment)
      (sv : staged_version w.memory ≡ v) (mo : moment_at (stage_region w.memory) 0 ≡ v.moment) (lk : Looks h r.list w v.key (suc v.moment) ev μ) where
    abbrev c₀ : Control
    c₀ = control_of w.memory

    abbrev x₀ : Extent
    x₀ = extent_of r.list

    abbrev l : Lookup
    l = c₀.lookup

    abbrev came : List ℕ
    came = page_at w.device.pages (l.load.span.page + l.load.got)

    abbrev m₁ : List ℕ
    m₁ = page_in l came w.memory

    abbrev m₂ : List ℕ
    m₂ = put_control m₁ (to_phase c₀ Idle)

    abbrev l₁ : Lookup
    l₁ = with_page l

    abbrev row : List ℕ
    row = octets 2016 (ring_of m₁)

    abbrev H : Step → Type 0
    H s = Goes n pages h w.device ts t μ s

    step_wrote : own.step w.memory ev ≡ wrote_on c₀ w.memory (octets 512 came)
    unfolding turned paged_by
    step_wrote =
        ap (own.step w.memory) lk.event ∙ step_is w.memory (page came) r.held.long
        ∙ ap (λ q. paged_by c₀ w.memory (octets 512 came) q) (ap (λ y. y.phase) r.held.base_is)

    stage_same : stage_region m₁ ≡ stage_region w.memory
    stage_same = stage_in l came w.memory r.held.long

    still_staged : Staged v (stage_region m₁)
    still_staged = record { key = key_same n pages h Writing w v.key (suc v.moment) ev μ r lk (moment_bound f); moment = ap (λ ws. moment_at ws 0) stage_same ∙ mo; whole = ap (λ ws. version_of ws 0) stage_same ∙ sv }

    took : Held pages h r.list Writing m₁
    took = held_took n pages h Writing w v.key (suc v.moment) ev μ r lk (moment_bound f)

    same_control : c₀ ≡ control_of m₁
    same_control = sym (control_in l came w.memory r.held.long)

    idle : Held pages h r.list Idle m₂
    idle = held_phase pages h r.list Writing Idle m₁ c₀ same_control took

    rest_idle : Rest n pages h Idle (world w.device m₂)
    rest_idle = record { list = r.list; commits = r.commits; quiet = r.quiet; stored = r.stored; held = idle }

    version_same : staged_version m₂ ≡ v
    version_same = ap (λ ws. version_of ws 0) (region_put m₁ (to_phase c₀ Idle) took.long 147520 162 (omega arith)) ∙ still_staged.whole

    -- the table has not got it
    goes_in : any (written_at v.key v.moment) h.safe ≡ false → H (writing.finished c₀ m₁)
    unfolding writing.finished rest_idle
    goes_in e =
        subst (λ u. H (accepted (to_phase c₀ Idle) m₂ u)) (sym version_same)
        (ends_so n pages h w.device ts t μ m₂ (accepted (to_phase c₀ Idle) m₂ v) rest_idle
        (accepted_outcome pages h r.list m₂ v idle f r.stored.weighs (to_phase c₀ Idle) (table_phase pages h r.list Writing Idle m₁ c₀ same_control took idle) r.held.manifest_is le e))

    -- it has
    refuses_again : (u : Version) → latest h.safe v.key (suc v.moment) ≡ u ∷ [] → u.moment ≡ v.moment → version_refusal h v ≡ 3
    refuses_again u e q =
        let (c1, c2, c3, c4) = fits_checks v f in
        let a : any (written_at v.key u.moment) h.safe ≡ true = latest_any h.safe v.key (suc v.moment) u e in
        let b : written_then h v.key v.moment ≡ true =
        ap (any (written_at v.key v.moment)) r.held.all_is ∙ any_append (written_at v.key v.moment) h.safe r.held.fresh (subst (λ y. any (written_at v.key y) h.safe ≡ true) q a) in
        rw (c1, c2, c3, le-ltb v.moment h.last le, b) refl

    decides : (o : Looked) → LookRight x₀ w.device.pages h.safe v.key (suc v.moment) r.stored.there (moment_bound f) l₁ row o → H (written_by c₀ m₁ o)
    unfolding written_by rest_idle
    decides o (on nxt q small z left y) =
        subst (λ u. H (written_by c₀ m₁ u)) (sym q)
        (goes_on n pages h w.device ts t μ (asked c₀ m₁ nxt) m₁ (lookup_left nxt) (asks_on n pages h Writing w v.key (suc v.moment) ev μ r lk (moment_bound f) nxt small z y)
        (let fa = falls n pages h Writing w v.key (suc v.moment) ev μ r lk (moment_bound f) in omega arith) f le still_staged)
    decides o (missing q e) = subst (λ u. H (written_by c₀ m₁ u)) (sym q) (goes_in (none_seen h.safe v.key v.moment e))
    decides o (found p q e) = subst (λ u. H (written_by c₀ m₁ u)) (sym q) (go (eqb p.moment (moment_at (stage_region m₁) 0)) refl)
      where
        go : (b : Bool) → eqb p.moment (moment_at (stage_region m₁) 0) ≡ b → H (pick b (stepped m₂ (refused 3)) (writing.finished c₀ m₁))
        go true b =
            ends_so n pages h w.device ts t μ m₂ (stepped m₂ (refused 3)) rest_idle
            (rejected_by 3 refl (omega arith) (omega arith) (refuses_again (enc.version_at (loaded l₁ row) p) e (eqb-true p.moment (moment_at (stage_region m₁) 0) b ∙ still_staged.moment)))
        go false b =
            goes_in (earlier_seen h.safe v.key v.moment (enc.version_at (loaded l₁ row) p) r.stored.there.lies.rises e
            (λ y. eqb-false p.moment (moment_at (stage_region m₁) 0) b (y ∙ sym still_staged.moment)))

    wrote_by_is : wrote_by c₀ m₁ l₁ ≡ written_by c₀ m₁ (looked l₁ x₀ row v.key (suc v.moment))
    unfolding wrote_by
    wrote_by_is =
        let (c1, c2, c3, c4) = fits_checks v f in
        let s : (v.moment + 1) % 18446744073709551616 ≡ suc v.moment = omega (arith, ltb-true v.moment 9223372036854775808 c3) in
        (λ i. written_by c₀ m₁ (looked l₁ (extent_of (r.held.manifest_is i)) row (still_staged.key i) (wrap (still_staged.moment i + 1)))) ∙ ap (λ y. written_by c₀ m₁ (looked l₁ x₀ row v.key y)) s

    page_goes : H (wrote_on c₀ w.memory (octets 512 came))
    unfolding wrote_on
    page_goes =
        subst (λ y. H (pick (ltb l₁.load.got l.load.span.pages) (asked c₀ y l₁) (wrote_by c₀ y l₁)))
        (sym (page_in_cut w.device.pages (l.load.span.page + l.load.got) l w.memory r.stored.all_pages))
        (go (ltb l₁.load.got l.load.span.pages) refl)
      where
        go : (y : Bool) → ltb l₁.load.got l.load.span.pages ≡ y → H (pick y (asked c₀ m₁ l₁) (wrote_by c₀ m₁ l₁))
        go true e =
            goes_on n pages h w.device ts t μ (asked c₀ m₁ l₁) m₁ (lookup_left l₁) (asks_more n pages h Writing w v.key (suc v.moment) ev μ r lk (moment_bound f) e)
            (falls n pages h Writing w v.key (suc v.moment) ev μ r lk (moment_bound f)) f le still_staged
        go false e = subst H (sym wrote_by_is) (decides (looked l₁ x₀ row v.key (suc v.moment)) (all_looked n pages h Writing w v.key (suc v.moment) ev μ r lk (moment_bound f) e))

  pub gives_serves : Serves core own account c
  gives_serves = record {
    hears = λ n pages h w b g i. (most_lookups i.list, W.busy n pages h w (said c) [] (most_lookups i.list) (begun i g refl refl refl));
    works_on = λ n pages h w ev ts μ b i. works n pages h w ev ts μ (W.within n pages h w ev ts μ i);
    tells_right = λ n pages h w ev ts μ b i. told n pages h w ev ts μ (W.within n pages h w ev ts μ i);
    stop_leaves = λ n pages h w ev ts μ b i. stops n pages h w ev ts μ (W.within n pages h w ev ts μ i);
  }
    where
      works : (n pages : ℕ) (h : House) (w : World) (ev : Event) (ts : List (List ℕ)) (μ : ℕ) → Writes n pages h c v w ev ts μ → NextStep own (account.Busy n pages h c) (Ends core account n pages h c) w ev ts μ
      works n pages h w ev ts μ (begun r g e t z) =
          next_by own (account.Busy n pages h c) (Ends core account n pages h c) w ev ts μ (wrote (control_of w.memory) w.memory v)
          (ap (own.step w.memory) e ∙ step_is w.memory (said c) r.held.long ∙ W.hears_it w.memory) (said_goes n pages h w ts t μ r g z)
      works n pages h w ev ts μ (looking r f le sv mo lk t) =
          next_by own (account.Busy n pages h c) (Ends core account n pages h c) w ev ts μ _ (step_wrote n pages h w ev ts t μ r f le sv mo lk) (page_goes n pages h w ev ts t μ r f le sv mo lk)

      told : (n pages : ℕ) (h : House) (w : World) (ev : Event) (ts : List (List ℕ)) (μ : ℕ) → Writes n pages h c v w ev ts μ → TellsRight core h c ts
      told n pages h w ev ts μ (begun r g e t z) = nothing t
      told n pages h w ev ts μ (looking r f le sv mo lk t) = nothing t

      stops : (n pages : ℕ) (h : House) (w : World) (ev : Event) (ts : List (List ℕ)) (μ : ℕ) → Writes n pages h c v w ev ts μ → (cs : List ℕ) → StopLeaves core account n pages h c (leavings w cs)
      stops n pages h w ev ts μ (begun r g e t z) cs = undone (rest_stops (suc n) pages h Idle w (said_more n pages h Idle w r) cs)
      stops n pages h w ev ts μ (looking r f le sv mo lk t) cs = undone (rest_stops (suc n) pages h Writing w (said_more n pages h Writing w r) cs)

-- A WRITE, AND AN ERASURE
every_front : (f : ℕ → Bool) (xs ys : List ℕ) → every f (xs ++ ys) ≡ true → every f xs ≡ true
unfolding every
every_front f [] ys h = refl
every_front f (x ∷ xs) ys h = rw (and_left_of (f x) (every f (xs ++ ys)) h) (every_front f xs ys (and_right_of (f x) (every f (xs ++ ys)) h))

every_back : (f : ℕ → Bool) (xs ys : List ℕ) → every f (xs ++ ys) ≡ true → every f ys ≡ true
unfolding every
every_back f [] ys h = h
every_back f (x ∷ xs) ys h = every_back f xs ys (and_right_of (f x) (every f (xs ++ ys)) h)

abbrev is_byte : ℕ → Bool
is_byte b = ltb b 256

write_bytes : (k : List ℕ) (m : ℕ) (v : List ℕ) → small_command (write k m v) ≡ true → every is_byte (k ++ v) ≡ true
unfolding small_command
write_bytes k m v g =
    and_left_of (every is_byte (k ++ v)) (ltb m 18446744073709551616)
    (and_right_of (leb (length v) 4096) (every is_byte (k ++ v) && ltb m 18446744073709551616)
    (and_right_of (leb (length k) 4096) (leb (length v) 4096 && (every is_byte (k ++ v) && ltb m 18446744073709551616)) g))

erase_bytes : (k : List ℕ) (m : ℕ) → small_command (erase k m) ≡ true → every is_byte k ≡ true
unfolding small_command
erase_bytes k m g =
    and_left_of (every is_byte k) (ltb m 18446744073709551616) (and_right_of (leb (length k) 4096) (every is_byte k && ltb m 18446744073709551616) g)

and_true : (b : Bool) → (b && true) ≡ b
and_true true = refl
and_true false = refl

write_gives : (k : List ℕ) (m : ℕ) (v : List ℕ) → Gives (write k m v) (version k m false v)
unfolding core refusal after shows heard turned RefusedToo
write_gives k m v = record {
  is_known = refl;
  refuses = λ h. refl;
  leaves = λ h. refl;
  shows_none = λ h. refl;
  hears_it = λ mem. refl;
  heavy = λ h pages x. inl (refl, x);
  full = λ h pages x y. inr (refl, x, y);
  key_bytes = λ g. every_front is_byte k v (write_bytes k m v g);
  value_bytes = λ g. every_back is_byte k v (write_bytes k m v g);
  gone_empty = refl;
  busy = λ n pages h w ev ts μ i. i;
  within = λ n pages h w ev ts μ i. i;
}

erase_gives : (k : List ℕ) (m : ℕ) → Gives (erase k m) (version k m true [])
unfolding core refusal after shows heard turned RefusedToo every
erase_gives k m = record {
  is_known = refl;
  refuses = λ h. rw (and_true (a_key k)) refl;
  leaves = λ h. refl;
  shows_none = λ h. refl;
  hears_it = λ mem. refl;
  heavy = λ h pages x. inl (refl, x);
  full = λ h pages x y. inr (refl, x, y);
  key_bytes = λ g. erase_bytes k m g;
  value_bytes = λ g. refl;
  gone_empty = refl;
  busy = λ n pages h w ev ts μ i. i;
  within = λ n pages h w ev ts μ i. i;
}

pub write_serves : (k : List ℕ) (m : ℕ) (v : List ℕ) → Serves core own account (write k m v)
write_serves k m v = gives_serves (write k m v) (version k m false v) (write_gives k m v)

pub erase_serves : (k : List ℕ) (m : ℕ) → Serves core own account (erase k m)
erase_serves k m = gives_serves (erase k m) (version k m true []) (erase_gives k m)
