-- The machine's memory seen through its parts: what a change of one part leaves of the others, and that control words come back as they were put.
use Rattle.std.proofs.Common.{◌≡◌, ℕ, ◌<◌, ◌≤◌, Bool, true, false, eqb, List, length, refl, ap, ◌∙◌, arith}
use Rattle.memtable.specs.Memtable.{memtable}
use Rattle.table.specs.declared.cursor.Cursor.{Cursor}
use Rattle.table.specs.declared.lookup.Lookup.{Lookup}
use Rattle.table.specs.declared.lookup.Stage.{Stage}
use Rattle.table.specs.declared.lookup.Stage.TheVariants.{Entry, Head, Block}
use Rattle.table.specs.declared.writer.Writer.{Writer}
use Rattle.table.specs.Writing.{writer}
use Rattle.manifest.specs.Manifest.{half_number, half_of, flag, Fits}
use Rattle.manifest.specs.declared.fields.Half.{Half}
use Rattle.manifest.specs.declared.fields.Half.TheVariants.{First, Second}
use Rattle.manifest.specs.declared.fields.Manifest.{Manifest}
use Rattle.table.specs.Stages.{stage_of, stage_number}
use Rattle.flushing_store.specs.Control.{memory_words, wraps, base, merging, phase_of, phase_number, base_words, base_from, manifest_words, manifest_from, lookup_words, lookup_from, merging_words, merging_from, control_of, put_control}
use Rattle.store.specs.Regions.{region, within, wrap}
use Rattle.flushing_store.proofs.WithinLaws.{length_wraps}
use Rattle.store.proofs.RegionLaws.{length_within, region_same, region_above, region_below}
use Rattle.flushing_store.specs.declared.control.Phase.{Phase}
use Rattle.flushing_store.specs.declared.control.Phase.TheVariants.{Idle, Shown, FirstList, AfterWhole, AfterTorn, Getting, Writing, Merging as MergingPhase, Closed, Placed, Settled, Listed, Committed}
use Rattle.flushing_store.specs.declared.control.Base.{Base}
use Rattle.flushing_store.specs.declared.control.Merging.{Merging}
use Rattle.flushing_store.specs.declared.control.Control.{Control}

-- WORDS THAT ARE PUT
module _ (m : List ℕ) (k : Control) (l : length m ≡ memory_words) where
  abbrev one : List ℕ
  one = within 0 6 (λ x. wraps (base_words k.base)) m

  abbrev two : List ℕ
  two = within 6 15 (λ x. wraps (manifest_words k.manifest)) one

  abbrev three : List ℕ
  three = within 21 12 (λ x. wraps (lookup_words k.lookup)) two

  long_one : length one ≡ memory_words
  long_one = length_within 0 6 (λ x. wraps (base_words k.base)) m (omega arith) (length_wraps (base_words k.base)) ∙ l

  long_two : length two ≡ memory_words
  long_two = length_within 6 15 (λ x. wraps (manifest_words k.manifest)) one (omega (arith, long_one)) (length_wraps (manifest_words k.manifest)) ∙ long_one

  long_three : length three ≡ memory_words
  long_three = length_within 21 12 (λ x. wraps (lookup_words k.lookup)) two (omega (arith, long_two)) (length_wraps (lookup_words k.lookup)) ∙ long_two

  pub length_put : length (put_control m k) ≡ memory_words
  unfolding put_control
  length_put = length_within 33 15 (λ x. wraps (merging_words k.merging)) three (omega (arith, long_three)) (length_wraps (merging_words k.merging)) ∙ long_three

  -- no other region changes
  pub region_put : (b n : ℕ) → 48 ≤ b → region b n (put_control m k) ≡ region b n m
  unfolding put_control
  region_put b n h =
      region_above 33 15 b n (λ x. wraps (merging_words k.merging)) three (omega (arith, long_three)) (length_wraps (merging_words k.merging)) (omega arith)
      ∙ region_above 21 12 b n (λ x. wraps (lookup_words k.lookup)) two (omega (arith, long_two)) (length_wraps (lookup_words k.lookup)) (omega arith)
      ∙ region_above 6 15 b n (λ x. wraps (manifest_words k.manifest)) one (omega (arith, long_one)) (length_wraps (manifest_words k.manifest)) (omega arith)
      ∙ region_above 0 6 b n (λ x. wraps (base_words k.base)) m (omega arith) (length_wraps (base_words k.base)) (omega arith)

  base_region : region 0 6 (put_control m k) ≡ wraps (base_words k.base)
  unfolding put_control
  base_region =
      region_below 33 15 0 6 (λ x. wraps (merging_words k.merging)) three (omega (arith, long_three)) (omega arith)
      ∙ region_below 21 12 0 6 (λ x. wraps (lookup_words k.lookup)) two (omega (arith, long_two)) (omega arith)
      ∙ region_below 6 15 0 6 (λ x. wraps (manifest_words k.manifest)) one (omega (arith, long_one)) (omega arith)
      ∙ region_same 0 6 (λ x. wraps (base_words k.base)) m (omega arith) (length_wraps (base_words k.base))

  manifest_region : region 6 15 (put_control m k) ≡ wraps (manifest_words k.manifest)
  unfolding put_control
  manifest_region =
      region_below 33 15 6 15 (λ x. wraps (merging_words k.merging)) three (omega (arith, long_three)) (omega arith)
      ∙ region_below 21 12 6 15 (λ x. wraps (lookup_words k.lookup)) two (omega (arith, long_two)) (omega arith)
      ∙ region_same 6 15 (λ x. wraps (manifest_words k.manifest)) one (omega (arith, long_one)) (length_wraps (manifest_words k.manifest))

  lookup_region : region 21 12 (put_control m k) ≡ wraps (lookup_words k.lookup)
  unfolding put_control
  lookup_region =
      region_below 33 15 21 12 (λ x. wraps (merging_words k.merging)) three (omega (arith, long_three)) (omega arith)
      ∙ region_same 21 12 (λ x. wraps (lookup_words k.lookup)) two (omega (arith, long_two)) (length_wraps (lookup_words k.lookup))

  merging_region : region 33 15 (put_control m k) ≡ wraps (merging_words k.merging)
  unfolding put_control
  merging_region = region_same 33 15 (λ x. wraps (merging_words k.merging)) three (omega (arith, long_three)) (length_wraps (merging_words k.merging))

-- each part comes back where its numbers have 64 bits
phase_back : (p : Phase) → phase_of (wrap (phase_number p)) ≡ p
phase_back Idle = refl
phase_back Shown = refl
phase_back FirstList = refl
phase_back AfterWhole = refl
phase_back AfterTorn = refl
phase_back Getting = refl
phase_back Writing = refl
phase_back MergingPhase = refl
phase_back Closed = refl
phase_back Placed = refl
phase_back Settled = refl
phase_back Listed = refl
phase_back Committed = refl

stage_back : (g : Stage) → stage_of (wrap (stage_number g)) ≡ g
stage_back Entry = refl
stage_back Head = refl
stage_back Block = refl

half_back : (h : Half) → half_of (wrap (half_number h)) ≡ h
half_back First = refl
half_back Second = refl

flag_back : (b : Bool) → eqb (wrap (flag b)) 1 ≡ b
flag_back true = refl
flag_back false = refl

pub record SmallBase (b : Base) : Type 0 where
  pub pages : b.pages < 18446744073709551616
  pub last : b.last < 18446744073709551616
  pub versions : b.table.versions < 18446744073709551616
  pub used : b.table.used < 18446744073709551616
  pub weight : b.table.weight < 18446744073709551616

pub record SmallLookup (l : Lookup) : Type 0 where
  pub low : l.search.low < 18446744073709551616
  pub high : l.search.high < 18446744073709551616
  pub begin : l.entry.begin < 18446744073709551616
  pub len : l.entry.len < 18446744073709551616
  pub ahead_begin : l.ahead.begin < 18446744073709551616
  pub ahead_len : l.ahead.len < 18446744073709551616
  pub page : l.load.span.page < 18446744073709551616
  pub pages : l.load.span.pages < 18446744073709551616
  pub skip : l.load.span.skip < 18446744073709551616
  pub span_len : l.load.span.len < 18446744073709551616
  pub got : l.load.got < 18446744073709551616

pub record SmallCursor (c : Cursor) : Type 0 where
  pub block : c.block < 18446744073709551616
  pub at : c.at < 18446744073709551616
  pub listed : c.listed < 18446744073709551616
  pub read : c.read < 18446744073709551616

pub record SmallWriter (w : Writer) : Type 0 where
  pub begin : w.block.begin < 18446744073709551616
  pub used : w.block.used < 18446744073709551616
  pub count : w.block.count < 18446744073709551616
  pub len : w.hand.len < 18446744073709551616
  pub taken : w.hand.taken < 18446744073709551616
  pub fill : w.stream.fill < 18446744073709551616
  pub put : w.stream.put < 18446744073709551616
  pub listed : w.positions.fill < 18446744073709551616
  pub lists : w.positions.put < 18446744073709551616

wrap_small : (n : ℕ) → n < 18446744073709551616 → wrap n ≡ n
wrap_small n h = omega arith

base_back : (b : Base) → SmallBase b → base_from (wraps (base_words b)) ≡ b
unfolding wraps
base_back b s =
    λ i. base (phase_back b.phase i) (wrap_small b.pages s.pages i) (wrap_small b.last s.last i)
    (memtable (wrap_small b.table.versions s.versions i) (wrap_small b.table.used s.used i) (wrap_small b.table.weight s.weight i))

manifest_back : (f : Manifest) → Fits f → manifest_from (wraps (manifest_words f)) ≡ f
unfolding wraps
manifest_back f s = λ i. record {
  commit = wrap_small f.commit s.commit i;
  layout = record { pages = wrap_small f.layout.pages s.pages i; half = half_back f.layout.half i; free = wrap_small f.layout.free s.free i };
  moments = record { last = wrap_small f.moments.last s.last i; low = wrap_small f.moments.low s.low i };
  weight = record { all = wrap_small f.weight.all s.all i; exact = flag_back f.weight.exact i };
  tables = wrap_small f.tables s.tables i;
  table = record {
    start = wrap_small f.table.start (omega (arith, s.start)) i;
    data_at = wrap_small f.table.data_at (omega (arith, s.first_data)) i;
    size = wrap_small f.table.size (omega (arith, s.size)) i;
    blocks = wrap_small f.table.blocks (omega (arith, s.blocks)) i;
    level = wrap_small f.table.level s.level i;
    latest = wrap_small f.table.latest s.latest i;
  };
}

lookup_back : (l : Lookup) → SmallLookup l → lookup_from (wraps (lookup_words l)) ≡ l
unfolding wraps
lookup_back l s = λ i. record {
  stage = stage_back l.stage i;
  search = record { low = wrap_small l.search.low s.low i; high = wrap_small l.search.high s.high i };
  entry = record { begin = wrap_small l.entry.begin s.begin i; len = wrap_small l.entry.len s.len i };
  ahead = record { begin = wrap_small l.ahead.begin s.ahead_begin i; len = wrap_small l.ahead.len s.ahead_len i };
  load = record {
    span = record {
      page = wrap_small l.load.span.page s.page i;
      pages = wrap_small l.load.span.pages s.pages i;
      skip = wrap_small l.load.span.skip s.skip i;
      len = wrap_small l.load.span.len s.span_len i;
    };
    got = wrap_small l.load.got s.got i;
  };
}

merging_back : (g : Merging) → SmallCursor g.cursor → SmallWriter g.writer → g.walked < 18446744073709551616 → g.waiting < 18446744073709551616 → merging_from (wraps (merging_words g)) ≡ g
unfolding wraps
merging_back g c w a b = λ i.
    merging record { block = wrap_small g.cursor.block c.block i; at = wrap_small g.cursor.at c.at i; listed = wrap_small g.cursor.listed c.listed i; read = wrap_small g.cursor.read c.read i }
    (writer (wrap_small g.writer.block.begin w.begin i) (wrap_small g.writer.block.used w.used i) (wrap_small g.writer.block.count w.count i)
    (wrap_small g.writer.hand.len w.len i) (wrap_small g.writer.hand.taken w.taken i) (wrap_small g.writer.stream.fill w.fill i) (wrap_small g.writer.stream.put w.put i)
    (wrap_small g.writer.positions.fill w.listed i) (wrap_small g.writer.positions.put w.lists i))
    (wrap_small g.walked a i) (wrap_small g.waiting b i)

pub base_put : (m : List ℕ) (k : Control) → length m ≡ memory_words → SmallBase k.base → (control_of (put_control m k)).base ≡ k.base
unfolding control_of
base_put m k l s = ap base_from (base_region m k l) ∙ base_back k.base s

pub manifest_put : (m : List ℕ) (k : Control) → length m ≡ memory_words → Fits k.manifest → (control_of (put_control m k)).manifest ≡ k.manifest
unfolding control_of
manifest_put m k l s = ap manifest_from (manifest_region m k l) ∙ manifest_back k.manifest s

pub lookup_put : (m : List ℕ) (k : Control) → length m ≡ memory_words → SmallLookup k.lookup → (control_of (put_control m k)).lookup ≡ k.lookup
unfolding control_of
lookup_put m k l s = ap lookup_from (lookup_region m k l) ∙ lookup_back k.lookup s

pub merging_put : (m : List ℕ) (k : Control) → length m ≡ memory_words → SmallCursor k.merging.cursor → SmallWriter k.merging.writer → k.merging.walked < 18446744073709551616 →
    k.merging.waiting < 18446744073709551616 → (control_of (put_control m k)).merging ≡ k.merging
unfolding control_of
merging_put m k l c w a b = ap merging_from (merging_region m k l) ∙ merging_back k.merging c w a b
