-- A lookup in a table, step by step: its numbers stay small, what is left of it falls, and what it comes to is the latest version.
use Rattle.std.proofs.Common.{◌≡◌, ℕ, zero, suc, ◌+◌, ◌-◌, ◌*◌, ◌%◌, ◌<◌, ◌≤◌, min, Bool, true, false, eqb, ltb, List, [], ◌∷◌, drop, Some, None, Option, sym, refl, ap, ◌∙◌, subst, arith, ltb-false, ltb-true}
use Rattle.value.specs.Versions.{pick, every, Version, latest}
use Rattle.value.specs.Numbers.{number_at, is_byte, all_bytes}
use Rattle.value.specs.Encoding.{in_limits, version_at}
use Rattle.value.specs.Sorted.{sort, lookup}
use Rattle.value.specs.declared.version.Place.{Place}
use Rattle.value.proofs.NumberLaws.{number_4, byte_there, all_bytes_drop}
use Rattle.value.proofs.SortLaws.{sort_every, lookup_sort}
use Rattle.value.proofs.TestLaws.{every_append}
use Rattle.table.specs.Device.{Page, page_at}
use Rattle.table.specs.Blocks.{no_bound}
use Rattle.table.specs.Stream.{payload, payloads}
use Rattle.table.specs.Search.{middle, narrowed}
use Rattle.table.specs.Reading.{Finds}
use Rattle.table.specs.Row.{octets}
use Rattle.table.specs.Cursor.{OfBytes}
use Rattle.table.specs.Lookup.{an_entry, a_lookup, probed, begun, entered, loaded, is_ahead, narrowed_by, found_by, There, ReadsRight, Looking, GoesOn, all_came}
use Rattle.table.specs.declared.search.Search.{Search}
use Rattle.table.specs.declared.lookup.Extent.{Extent}
use Rattle.table.specs.declared.lookup.Entry.{Entry}
use Rattle.table.specs.declared.lookup.Stage.{Stage}
use Rattle.table.specs.declared.lookup.Stage.TheVariants.{Entry as EntryStage, Head, Block}
use Rattle.table.specs.declared.lookup.Lookup.{Lookup}
use Rattle.table.proofs.BlockAtLaws.{block_at}
use Rattle.table.proofs.LookupLaws.{lookup_right}
use Rattle.table.proofs.RowLaws.{octets_bytes}
use Rattle.table.proofs.StreamLaws.{length_payloads, payload_bytes}
use Rattle.flushing_store.specs.Look.{or_on, or_found, looked_at, looked}
use Rattle.flushing_store.specs.declared.look.Looked.{Looked}
use Rattle.flushing_store.specs.declared.look.Looked.TheVariants.{On, Found, Missing}
use Rattle.flushing_store.proofs.RegionLaws.{SmallLookup}
use Rattle.flushing_store.proofs.OwnAccount.{stage_left, lookup_left}
use Rattle.flushing_store.proofs.BytesLaws.{take_octets}

-- BYTES
payloads_bytes : (ps : List Page) (first n : ℕ) → OfBytes ps → all_bytes (payloads ps first n) ≡ true
unfolding payloads every
payloads_bytes ps first zero b = refl
payloads_bytes ps first (suc n) b = every_append is_byte (payload (page_at ps first)) (payloads ps (suc first) n) (payload_bytes (page_at ps first) (b first)) (payloads_bytes ps (suc first) n b)

-- a number of four bytes
number_small : (at : ℕ) (row : List ℕ) → all_bytes row ≡ true → number_at 4 at row < 4294967296
number_small at row b =
    let bs = drop at row in
    let a = all_bytes_drop at row b in
    omega (arith, number_4 bs, byte_there bs 0 a, byte_there bs 1 a, byte_there bs 2 a, byte_there bs 3 a)

-- the bytes of the words are as good as the words, where what came is bytes
pub looking_octets :
    (x : Extent) (ps : List Page) (vs : List Version) (k : List ℕ) (s : ℕ) (l : Lookup) (row : List ℕ) → OfBytes ps → l.load.got ≤ 4 → Looking x ps vs k s l row → Looking x ps vs k s l (octets 2016 row)
looking_octets x ps vs k s l row b h o = record {
  between = o.between;
  kept = o.kept;
  reads = o.reads;
  came =
      take_octets (504 * l.load.got) 2016 row (omega arith)
      ∙ octets_bytes (504 * l.load.got) row (payloads ps l.load.span.page l.load.got) o.came (length_payloads ps l.load.span.page l.load.got) (payloads_bytes ps l.load.span.page l.load.got b);
}

-- SPANS: what is read is on a few pages, but on one at least
abbrev pub most_pages : Stage → ℕ
most_pages EntryStage = 1
most_pages Head = 2
most_pages Block = 4

-- which is no more than what is left
pub pages_left : (g : Stage) → (most_pages g ≤ 4) × (most_pages g ≤ stage_left g)
pages_left EntryStage = (omega arith, omega arith)
pages_left Head = (omega arith, omega arith)
pages_left Block = (omega arith, omega arith)

head_less : (x : Extent) (vs : List Version) (l : Lookup) → ReadsRight x vs l Head → l.search.low < l.search.high
unfolding ReadsRight
head_less x vs l (h, q, e) = h

module _ (x : Extent) (ps : List Page) (vs : List Version) (k : List ℕ) (s : ℕ) (t : There x ps vs) (sm : s ≤ no_bound) where
  fitting : every in_limits (sort vs) ≡ true
  fitting = sort_every in_limits vs ∙ t.lies.fits

  module _ (l : Lookup) (row : List ℕ) (o : Looking x ps vs k s l row) where
    spans_by : (g : Stage) → ReadsRight x vs l g → (0 < l.load.span.pages) × (l.load.span.pages ≤ most_pages g) × (l.load.span.page < 9223372036854775808)
    unfolding ReadsRight
    spans_by EntryStage (h, e) =
        let small : l.search.high < 4294967296 = omega (arith, o.between.within, t.lies.count, t.few) in
        rw e (omega arith, omega arith, omega (arith, t.start_small))
    spans_by Head (h, q, e) =
        let b = block_at (sort vs) (middle l.search.low l.search.high) fitting (omega (arith, o.between.within)) in
        let small : l.entry.begin < 4294967296 = omega (arith, ap (λ y. y.begin) q, b.ends, t.short) in
        let some : 0 < l.entry.len = omega (arith, ap (λ y. y.len) q) in
        rw e (omega arith, omega arith, omega (arith, t.data_small))
    spans_by Block (m, q, r, e) =
        let b = block_at (sort vs) m fitting (omega (arith, o.between.within)) in
        rw e (omega arith, omega (arith, b.short), omega (arith, t.data_small, b.ends, t.short))

    pub spans : (0 < l.load.span.pages) × (l.load.span.pages ≤ most_pages l.stage) × (l.load.span.page < 9223372036854775808)
    spans = spans_by l.stage o.reads

  -- WHAT COMES OF A PROBE: a lookup that goes on, with no more left than this, or nothing
  pub data ProbeRight (μ : ℕ) (o : Option Lookup) : Type 0 where
    goes : (l : Lookup) → o ≡ Some l → SmallLookup l → l.load.got ≡ 0 → lookup_left l ≤ μ → ((row : List ℕ) → Looking x ps vs k s l row) → ProbeRight μ o
    none : o ≡ None → latest vs k s ≡ [] → ProbeRight μ o

  probe_right : (f : Search) (a : Entry) (μ : ℕ) → f.low < 18446744073709551616 → f.high < 18446744073709551616 → a.begin < 18446744073709551616 → a.len < 18446744073709551616 →
      8 * (f.high - f.low) + 8 ≤ μ → GoesOn x ps vs k s (probed x f a) → ProbeRight μ (probed x f a)
  unfolding GoesOn
  probe_right f a μ lo hi ab al left g = go (ltb f.low f.high) refl (eqb f.low 0) g
    where
      go : (b : Bool) → ltb f.low f.high ≡ b → (z : Bool) →
          GoesOn x ps vs k s (pick b (Some (a_lookup EntryStage f a a x.start (middle f.low f.high * 8 % 18446744073709551616) 8)) (pick z None (Some (a_lookup Block f a a x.data_at a.begin a.len)))) →
          ProbeRight μ (pick b (Some (a_lookup EntryStage f a a x.start (middle f.low f.high * 8 % 18446744073709551616) 8)) (pick z None (Some (a_lookup Block f a a x.data_at a.begin a.len))))
      go true e z y =
          let h = ltb-true f.low f.high e in
          goes (a_lookup EntryStage f a a x.start (middle f.low f.high * 8 % 18446744073709551616) 8) refl
          record { low = lo; high = hi; begin = ab; len = al; ahead_begin = ab; ahead_len = al; page = omega arith; pages = omega arith; skip = omega arith; span_len = omega arith; got = omega arith }
          refl (omega arith) y
      go false e true y = none refl (sym (lookup_sort vs k s) ∙ y)
      go false e false y =
          let h = ltb-false f.low f.high e in
          goes (a_lookup Block f a a x.data_at a.begin a.len) refl
          record { low = lo; high = hi; begin = ab; len = al; ahead_begin = ab; ahead_len = al; page = omega arith; pages = omega arith; skip = omega arith; span_len = al; got = omega arith }
          refl (omega arith) y

  pub begun_right : ProbeRight (8 * x.blocks + 8) (begun x)
  begun_right =
      probe_right (record { low = 0; high = x.blocks }) (an_entry 0 0) (8 * x.blocks + 8) (omega arith) (omega (arith, t.few)) (omega arith) (omega arith) (omega arith)
      (lookup_right.begins x ps vs k s t sm)

  -- WHAT COMES OF A LOOK, when all pages came that were wanted
  pub data LookRight (l : Lookup) (row : List ℕ) (o : Looked) : Type 0 where
    on : (next : Lookup) → o ≡ On next → SmallLookup next → next.load.got ≡ 0 → lookup_left next ≤ lookup_left l → ((row₁ : List ℕ) → Looking x ps vs k s next row₁) → LookRight l row o
    missing : o ≡ Missing → latest vs k s ≡ [] → LookRight l row o
    found : (p : Place) → o ≡ Found p → latest vs k s ≡ version_at (loaded l row) p ∷ [] → LookRight l row o

  module _ (l : Lookup) (row : List ℕ) (o : Looking x ps vs k s l row) (all : all_came l) (small : SmallLookup l) (b : all_bytes row ≡ true) where
    small_entered : SmallLookup (entered l x row)
    small_entered = record {
      low = small.low;
      high = small.high;
      begin = omega (arith, number_small l.load.span.skip row b);
      len = omega (arith, number_small (min (l.load.span.skip + 4) 18446744073709551615) row b);
      ahead_begin = small.ahead_begin;
      ahead_len = small.ahead_len;
      page = omega arith;
      pages = omega arith;
      skip = omega arith;
      span_len = omega (arith, number_small (min (l.load.span.skip + 4) 18446744073709551615) row b);
      got = omega arith;
    }

    from_probe : (μ : ℕ) (p : Option Lookup) → μ ≤ lookup_left l → ProbeRight μ p → LookRight l row (or_on p)
    from_probe μ p h (goes next e n g z y) = on next (ap or_on e) n g (omega arith) y
    from_probe μ p h (none e z) = missing (ap or_on e) z

    from_find : (p : Option Place) → Finds (loaded l row) (lookup (sort vs) k s) p → LookRight l row (or_found p)
    from_find None e = missing refl (sym (lookup_sort vs k s) ∙ e)
    from_find (Some p) e = found p refl (sym (lookup_sort vs k s) ∙ e)

    heads : l.stage ≡ Head → (c : Bool) → is_ahead l row k s ≡ c → GoesOn x ps vs k s (narrowed_by l x row k s) → LookRight l row (or_on (narrowed_by l x row k s))
    heads e c q g = go c q (narrow_less l o.reads e) (subst (λ d. GoesOn x ps vs k s (pick d (probed x (narrowed l.search true) l.entry) (probed x (narrowed l.search false) l.ahead))) q g)
      where
        narrow_less : (l₁ : Lookup) → ReadsRight x vs l₁ l₁.stage → l₁.stage ≡ Head → l₁.search.low < l₁.search.high
        narrow_less l₁ r z = head_less x vs l₁ (subst (ReadsRight x vs l₁) z r)

        left_is : l.search.low < l.search.high → 8 * (l.search.high - l.search.low) ≤ lookup_left l
        left_is h = let (a1, a2, a3) = spans l row o in let st = ap most_pages e in let sl = ap stage_left e in omega (arith, all)

        go : (d : Bool) → is_ahead l row k s ≡ d → l.search.low < l.search.high →
            GoesOn x ps vs k s (pick d (probed x (narrowed l.search true) l.entry) (probed x (narrowed l.search false) l.ahead)) → LookRight l row (or_on (narrowed_by l x row k s))
        go true r h y =
            rw r (from_probe (8 * (l.search.high - l.search.low)) _ (left_is h)
            (probe_right (narrowed l.search true) l.entry (8 * (l.search.high - l.search.low)) (omega (arith, small.high)) small.high small.begin small.len (omega arith) y))
        go false r h y =
            rw r (from_probe (8 * (l.search.high - l.search.low)) _ (left_is h)
            (probe_right (narrowed l.search false) l.ahead (8 * (l.search.high - l.search.low)) small.low (omega (arith, small.high)) small.ahead_begin small.ahead_len (omega arith) y))

    look_by : (g : Stage) → l.stage ≡ g → LookRight l row (looked_at g l x row k s)
    look_by EntryStage e =
        let (a1, a2, a3) = spans l row o in
        let st = ap most_pages e in
        let sl = ap stage_left e in
        on (entered l x row) refl small_entered refl (omega (arith, all)) (λ row₁. lookup_right.enters x ps vs k s l row row₁ t sm o e all)
    look_by Head e = heads e (is_ahead l row k s) refl (lookup_right.narrows x ps vs k s l row t sm o e all)
    look_by Block e = from_find (found_by l row k s) (lookup_right.finds x ps vs k s l row t sm o e all)

    pub look_right : LookRight l row (looked l x row k s)
    unfolding looked
    look_right = look_by l.stage refl
