-- One step of a lookup, as get and write share it: the page that came goes to its place, and the next page is asked for, or all came that were wanted.
use Rattle.std.proofs.Common.{◌≡◌, ℕ, suc, ◌+◌, ◌*◌, ◌%◌, ◌<◌, ◌≤◌, Bool, true, false, ◌&&◌, ltb, leb, List, [], length, drop, sym, refl, ap, ◌∙◌, subst, ⊎_elim, arith, length-append, length-drop, length-take, ltb-false, ltb-true, lt-ltb}
use Rattle.std.proofs.lemmas.List.{drop_at}
use Rattle.std.proofs.lemmas.Bool.{cases_lt}
use Rattle.value.specs.Versions.{pick, Version}
use Rattle.value.specs.Numbers.{put_at}
use Rattle.value.proofs.TestLaws.{and_left_of}
use Rattle.memtable.specs.Arena.{key_at, appended}
use Rattle.memtable.proofs.SteadyLaws.{append_keeps}
use Rattle.table.specs.Device.{Device, Page, page_at, read_page}
use Rattle.table.specs.Blocks.{no_bound}
use Rattle.table.specs.Stream.{payload}
use Rattle.table.specs.Load.{placed, placed_at}
use Rattle.table.specs.Row.{octets}
use Rattle.table.specs.Lookup.{Looking, with_page}
use Rattle.table.specs.declared.lookup.Lookup.{Lookup}
use Rattle.table.proofs.StreamLaws.{length_payload}
use Rattle.table.proofs.LookupLaws.{lookup_right}
use Rattle.manifest.specs.declared.fields.Manifest.{Manifest}
use Rattle.store.specs.House.{House, unsafe}
use Rattle.store.specs.Promise.{Event, page, World, world, Step, read}
use Rattle.store.specs.Acts.{stepped}
use Rattle.flushing_store.specs.Control.{memory_words, base, control, base_from, manifest_from, lookup_from, merging_from, control_of, put_control, to_phase, with_lookup, stage_region, ring_of}
use Rattle.store.specs.Regions.{within, index_of, arena_of}
use Rattle.flushing_store.specs.Stage.{staged}
use Rattle.flushing_store.specs.Look.{extent_of, page_in, looked, asked}
use Rattle.flushing_store.specs.declared.control.Phase.{Phase}
use Rattle.flushing_store.specs.declared.control.Control.{Control}
use Rattle.flushing_store.proofs.RegionLaws.{region_put, SmallBase, base_put, SmallLookup, lookup_put}
use Rattle.store.proofs.RegionLaws.{region_same, region_below, length_region}
use Rattle.flushing_store.proofs.StoredLaws.{Stored, AllPages, page_cut, of_bytes, page_none}
use Rattle.flushing_store.proofs.HeldLaws.{Held, small_base, held_put, held_within}
use Rattle.flushing_store.proofs.OwnAccount.{Rest, Looks, lookup_left}
use Rattle.flushing_store.proofs.StepLaws.{read_quiet}
use Rattle.flushing_store.proofs.LookLaws.{spans, pages_left, looking_octets, LookRight, look_right}
use Rattle.flushing_store.proofs.BytesLaws.{octets_of_bytes}

-- control words do not see what lies behind them
pub control_within : (a n : ℕ) (g : List ℕ → List ℕ) (m : List ℕ) → 48 ≤ a → a + n ≤ length m → control_of (within a n g m) ≡ control_of m
unfolding control_of
control_within a n g m h l = λ i.
    control (base_from (region_below a n 0 6 g m l (omega arith) i)) (manifest_from (region_below a n 6 15 g m l (omega arith) i))
    (lookup_from (region_below a n 21 12 g m l (omega arith) i)) (merging_from (region_below a n 33 15 g m l (omega arith) i))

-- what is not safe is known from the house
pub fresh_is : (pages : ℕ) (h : House) (f : Manifest) (p : Phase) (m : List ℕ) (o : Held pages h f p m) → o.fresh ≡ unsafe h
fresh_is pages h f p m o = sym (ap (drop (length h.safe)) o.all_is ∙ drop_at h.safe o.fresh (length h.safe) refl)

-- another phase
module _ (pages : ℕ) (h : House) (f : Manifest) (p q : Phase) (m : List ℕ) (k : Control) (e : k ≡ control_of m) (o : Held pages h f p m) where
  phase_base : (to_phase k q).base ≡ base q pages h.last o.table
  phase_base = ap (λ y. base q y.base.pages y.base.last y.base.table) e ∙ ap (λ y. base q y.pages y.last y.table) o.base_is

  pub held_phase : Held pages h f q (put_control m (to_phase k q))
  held_phase = held_put pages h f p m o q (to_phase k q) phase_base (ap (λ y. y.manifest) e ∙ o.manifest_is)

  -- and the memtable is the one that control has
  pub table_phase : (o₁ : Held pages h f q (put_control m (to_phase k q))) → (to_phase k q).base ≡ base q pages h.last o₁.table
  table_phase o₁ =
      sym (base_put m (to_phase k q) o.long (subst SmallBase (sym phase_base) (small_base q pages h.last o.table (index_of m) (arena_of m) o.fresh o.few o.early o.holds))) ∙ o₁.base_is

-- THE VERSION IS STAGED
pub control_staged : (v : Version) (m : List ℕ) → length m ≡ memory_words → control_of (staged v m) ≡ control_of m
unfolding staged
control_staged v m l = control_within 147520 162 (λ x. appended x 0 v) m (omega arith) (omega arith)

pub held_staged : (pages : ℕ) (h : House) (f : Manifest) (p : Phase) (m : List ℕ) (v : Version) → Held pages h f p m → Held pages h f p (staged v m)
unfolding staged
held_staged pages h f p m v o =
    held_within pages h f p m o 147520 162 (λ x. appended x 0 v) (omega arith) (omega arith) ((append_keeps (stage_region m) 0 v).0 ∙ length_region 147520 162 m (omega (arith, o.long)))

-- A PAGE COMES
length_placed : (got : ℕ) (p row : List ℕ) → length row ≡ 2016 → length (placed got p row) ≡ 2016
unfolding placed_at
length_placed got p row l = go (ltb got 4 && leb 2016 (length row)) refl
  where
    go : (b : Bool) → (ltb got 4 && leb 2016 (length row)) ≡ b → length (pick b (put_at (504 * got) (payload p) row) row) ≡ 2016
    go false e = l
    go true e =
        let g = ltb-true got 4 (and_left_of (ltb got 4) (leb 2016 (length row)) e) in
        let lp = length_payload p in
        simp (length-append, length-take, length-drop) (omega arith)

payload_none : payload (octets 512 []) ≡ payload []
unfolding payload octets
payload_none = refl

-- of a page 512 bytes count; where there is none, zeros
payload_cut : (ps : List Page) (k : ℕ) → AllPages ps → payload (octets 512 (page_at ps k)) ≡ payload (page_at ps k)
payload_cut ps k a =
    ⊎_elim (λ h. ap payload (page_cut (page_at ps k) (a k h)))
    (λ h. subst (λ p. payload (octets 512 p) ≡ payload p) (sym (page_none ps k h)) payload_none) (cases_lt k (length ps))

pub page_in_cut : (ps : List Page) (k : ℕ) (l : Lookup) (m : List ℕ) → AllPages ps → page_in l (octets 512 (page_at ps k)) m ≡ page_in l (page_at ps k) m
unfolding page_in placed_at
page_in_cut ps k l m a = ap (λ y. within 147682 2016 (λ row. pick (ltb l.load.got 4 && leb 2016 (length row)) (put_at (504 * l.load.got) y row) row) m) (payload_cut ps k a)

module _ (l : Lookup) (p m : List ℕ) (long : length m ≡ memory_words) where
  placed_long : length (placed l.load.got p (ring_of m)) ≡ 2016
  placed_long = length_placed l.load.got p (ring_of m) (length_region 147682 2016 m (omega arith))

  pub control_in : control_of (page_in l p m) ≡ control_of m
  unfolding page_in
  control_in = control_within 147682 2016 (placed l.load.got p) m (omega arith) (omega arith)

  pub ring_in : ring_of (page_in l p m) ≡ placed l.load.got p (ring_of m)
  unfolding page_in
  ring_in = region_same 147682 2016 (placed l.load.got p) m (omega arith) placed_long

  pub stage_in : stage_region (page_in l p m) ≡ stage_region m
  unfolding page_in
  stage_in = region_below 147682 2016 147520 162 (placed l.load.got p) m (omega arith) (omega arith)

  pub held_in : (pages : ℕ) (h : House) (f : Manifest) (q : Phase) → Held pages h f q m → Held pages h f q (page_in l p m)
  unfolding page_in
  held_in pages h f q o = held_within pages h f q m o 147682 2016 (placed l.load.got p) (omega arith) (omega arith) placed_long

-- A PAGE IS ASKED FOR
pub record Asks (n pages : ℕ) (h : House) (q : Phase) (key : List ℕ) (s : ℕ) (d : Device) (m₁ : List ℕ) (x : Step) (μ : ℕ) : Type 0 where
  pub memory : List ℕ
  pub place : ℕ
  pub is : x ≡ stepped memory (read place)
  pub rest : Rest n pages h q (world d memory)
  pub looks : Looks h rest.list (world d memory) key s (page (read_page d place)) μ
  pub stage_same : stage_region memory ≡ stage_region m₁

asked_is : (k : Control) (m : List ℕ) (l : Lookup) → l.load.got < l.load.span.pages → l.load.span.page + l.load.got < 18446744073709551616 →
    asked k m l ≡ stepped (put_control m (with_lookup k l)) (read (l.load.span.page + l.load.got))
unfolding asked
asked_is k m l g s =
    let e : (l.load.span.page + l.load.got) % 18446744073709551616 ≡ l.load.span.page + l.load.got = omega arith in
    rw (lt-ltb l.load.got l.load.span.pages g) (ap (λ j. stepped (put_control m (with_lookup k l)) (read j)) e)

module _ (n pages : ℕ) (h : House) (q₁ q : Phase) (key : List ℕ) (s : ℕ) (d : Device) (f : Manifest) (m₁ : List ℕ) where
  pub asks :
      f.commit ≤ n → d.queue ≡ [] → Stored pages h.safe f d.pages → (o : Held pages h f q₁ m₁) → s ≤ no_bound → (k : Control) (l : Lookup) → k.base ≡ base q pages h.last o.table → k.manifest ≡ f →
      SmallLookup l → l.load.got < l.load.span.pages → Looking (extent_of f) d.pages h.safe key s l (ring_of m₁) → key_at (stage_region m₁) 0 ≡ key →
      Asks n pages h q key s d m₁ (asked k m₁ l) (lookup_left l)
  asks c quiet st o sm k l kb km small g lk sk =
      let (s1, s2, s3) = spans (extent_of f) d.pages h.safe key s st.there sm l (ring_of m₁) lk in
      let k₁ = with_lookup k l in
      let m₂ = put_control m₁ (with_lookup k l) in
      let back : (control_of (put_control m₁ (with_lookup k l))).lookup ≡ l = lookup_put m₁ (with_lookup k l) o.long small in
      let ring : ring_of (put_control m₁ (with_lookup k l)) ≡ ring_of m₁ = region_put m₁ (with_lookup k l) o.long 147682 2016 (omega arith) in
      let stage : stage_region (put_control m₁ (with_lookup k l)) ≡ stage_region m₁ = region_put m₁ (with_lookup k l) o.long 147520 162 (omega arith) in
      record {
        memory = put_control m₁ (with_lookup k l);
        place = l.load.span.page + l.load.got;
        is = asked_is k m₁ l g (let z = (pages_left l.stage).0 in omega arith);
        rest = record { list = f; commits = c; quiet = quiet; stored = st; held = held_put pages h f q₁ m₁ o q (with_lookup k l) kb km };
        looks = record {
          small = subst SmallLookup (sym back) small;
          staged_key = ap (λ ws. key_at ws 0) stage ∙ sk;
          looking = subst (λ y. Looking (extent_of f) d.pages h.safe key s y (ring_of (put_control m₁ (with_lookup k l)))) (sym back)
              (subst (λ y. Looking (extent_of f) d.pages h.safe key s l y) (sym ring) lk);
          wants = subst (λ y. y.load.got < y.load.span.pages) (sym back) g;
          event = ap page (read_quiet d (l.load.span.page + l.load.got) quiet) ∙ ap (λ y. page (page_at d.pages (y.load.span.page + y.load.got))) (sym back);
          left = ap lookup_left (sym back);
        };
        stage_same = stage;
      }

-- A STEP OF A LOOKUP
module _ (n pages : ℕ) (h : House) (q : Phase) (w : World) (key : List ℕ) (s : ℕ) (ev : Event) (μ : ℕ) (r : Rest n pages h q w) (lk : Looks h r.list w key s ev μ) (sm : s ≤ no_bound) where
  abbrev k : Control
  k = control_of w.memory

  abbrev l : Lookup
  l = k.lookup

  abbrev came : List ℕ
  came = page_at w.device.pages (l.load.span.page + l.load.got)

  abbrev m₁ : List ℕ
  m₁ = page_in l came w.memory

  abbrev l₁ : Lookup
  l₁ = with_page l

  abbrev row : List ℕ
  row = octets 2016 (ring_of m₁)

  takes_in : Looking (extent_of r.list) w.device.pages h.safe key s l₁ (ring_of m₁)
  takes_in =
      subst (λ y. Looking (extent_of r.list) w.device.pages h.safe key s l₁ y) (sym (ring_in l came w.memory r.held.long))
      (lookup_right.takes (extent_of r.list) w.device.pages h.safe key s l (ring_of w.memory) r.stored.there sm lk.looking lk.wants
      (omega (arith, length_region 147682 2016 w.memory (omega (arith, r.held.long)))))

  counts : (l₁.load.got ≡ suc l.load.got) × (l₁.load.got ≤ l.load.span.pages) × (l₁.load.got ≤ 4) × (lookup_left l₁ < lookup_left l)
  counts =
      let (s1, s2, s3) = spans (extent_of r.list) w.device.pages h.safe key s r.stored.there sm l (ring_of w.memory) lk.looking in
      let (z, y) = pages_left l.stage in
      let a = lk.wants in
      (omega arith, omega arith, omega arith, omega arith)

  small_more : SmallLookup l₁
  small_more = record {
    low = lk.small.low;
    high = lk.small.high;
    begin = lk.small.begin;
    len = lk.small.len;
    ahead_begin = lk.small.ahead_begin;
    ahead_len = lk.small.ahead_len;
    page = lk.small.page;
    pages = lk.small.pages;
    skip = lk.small.skip;
    span_len = lk.small.span_len;
    got = omega arith;
  }

  pub falls : lookup_left l₁ < μ
  falls = let (a, b, c, e) = counts in omega (arith, lk.left)

  pub key_same : key_at (stage_region m₁) 0 ≡ key
  key_same = ap (λ ws. key_at ws 0) (stage_in l came w.memory r.held.long) ∙ lk.staged_key

  pub held_took : Held pages h r.list q m₁
  held_took = held_in l came w.memory r.held.long pages h r.list q r.held

  base_took : (o : Held pages h r.list q m₁) → k.base ≡ base q pages h.last o.table
  base_took o = sym (ap (λ y. y.base) (control_in l came w.memory r.held.long)) ∙ o.base_is

  -- the lookup goes on: with another page of the same load, or with what is to be read next
  pub asks_next : (next : Lookup) → SmallLookup next → next.load.got < next.load.span.pages → Looking (extent_of r.list) w.device.pages h.safe key s next (ring_of m₁) →
      Asks n pages h q key s w.device m₁ (asked k m₁ next) (lookup_left next)
  asks_next next small g y =
      asks n pages h q q key s w.device r.list m₁ r.commits r.quiet r.stored held_took sm k next (base_took held_took) r.held.manifest_is small g y key_same

  pub asks_more : ltb l₁.load.got l.load.span.pages ≡ true → Asks n pages h q key s w.device m₁ (asked k m₁ l₁) (lookup_left l₁)
  asks_more e = asks_next l₁ small_more (ltb-true l₁.load.got l.load.span.pages e) takes_in

  pub asks_on : (next : Lookup) → SmallLookup next → next.load.got ≡ 0 → ((row₁ : List ℕ) → Looking (extent_of r.list) w.device.pages h.safe key s next row₁) →
      Asks n pages h q key s w.device m₁ (asked k m₁ next) (lookup_left next)
  asks_on next small z y =
      let (s1, s2, s3) = spans (extent_of r.list) w.device.pages h.safe key s r.stored.there sm next (ring_of m₁) (y (ring_of m₁)) in
      asks_next next small (omega arith) (y (ring_of m₁))

  -- all came that was wanted
  pub all_looked : ltb l₁.load.got l.load.span.pages ≡ false →
      LookRight (extent_of r.list) w.device.pages h.safe key s r.stored.there sm l₁ row (looked l₁ (extent_of r.list) row key s)
  all_looked e =
      let (a, b, c, d) = counts in
      look_right (extent_of r.list) w.device.pages h.safe key s r.stored.there sm l₁ row
      (looking_octets (extent_of r.list) w.device.pages h.safe key s l₁ (ring_of m₁) (of_bytes w.device.pages r.stored.all_pages) c takes_in)
      (omega (arith, ltb-false l₁.load.got l.load.span.pages e)) small_more (octets_of_bytes 2016 (ring_of m₁))
