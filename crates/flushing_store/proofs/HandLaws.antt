-- A version that is handed over is in hand, the entry of the block that it ends is on the page of positions, and it is staged; all else in memory stays.
use Rattle.std.proofs.Common.{◌≡◌, ℕ, suc, ◌+◌, ◌≤◌, Bool, true, false, ◌&&◌, eqb, List, [], ◌++◌, length, sym, refl, ap, ◌∙◌, arith, length-append, lt-ltb, ne_eqb, le-leb}
use Rattle.std.proofs.lemmas.List.{take_all}
use Rattle.value.specs.Versions.{pick, every, same, Version, version}
use Rattle.value.specs.Numbers.{is_byte, all_bytes, bytes_of}
use Rattle.value.specs.Encoding.{limits, in_limits, fits, encoding}
use Rattle.value.proofs.TestLaws.{and_left_of, and_right_of, every_append}
use Rattle.value.proofs.NumberLaws.{all_bytes_of, length_bytes_of}
use Rattle.value.proofs.EncodingLaws.{Limits, limits_parts, length_encoding, all_bytes_encoding}
use Rattle.memtable.specs.Words.{bytes}
use Rattle.memtable.specs.Arena.{version_at, appended}
use Rattle.memtable.specs.Holds.{fits as fits_memory}
use Rattle.memtable.proofs.SteadyLaws.{append_keeps}
use Rattle.table.specs.Blocks.{no_bound, bound_of}
use Rattle.table.specs.Layout.{entry}
use Rattle.table.specs.Row.{octets}
use Rattle.table.specs.declared.writer.Writer.{Writer}
use Rattle.table.proofs.RowLaws.{octets_bytes}
use Rattle.table.proofs.SizeLaws.{length_entry, short_version}
use Rattle.store.specs.House.{House}
use Rattle.flushing_store.specs.Control.{memory_words, stage_region, hand_of, entries_of}
use Rattle.store.specs.Regions.{within, region}
use Rattle.flushing_store.specs.Octets.{put_octets}
use Rattle.flushing_store.specs.Stage.{staged}
use Rattle.flushing_store.specs.Give.{bound_after, brought, ended_block, in_hand}
use Rattle.store.proofs.RegionLaws.{length_within, region_same, region_above, region_below, length_region}
use Rattle.flushing_store.proofs.BytesLaws.{stage_reads, octets_put, put_octets_long}
use Rattle.flushing_store.proofs.FlushAccount.{Job, Staged, none_yet, last_given}

-- what holds of a version that fits
pub fits_limits : (v : Version) → fits v ≡ true → in_limits v ≡ true
fits_limits v f = and_left_of (in_limits v) (all_bytes v.key && all_bytes v.value) f

pub limits_of : (v : Version) → fits v ≡ true → Limits (length v.key) v.moment v.gone (length v.value)
limits_of v f = limits_parts (length v.key) v.moment v.gone (length v.value) (fits_limits v f)

pub key_bytes : (v : Version) → fits v ≡ true → bytes v.key ≡ true
key_bytes v f = and_left_of (all_bytes v.key) (all_bytes v.value) (and_right_of (in_limits v) (all_bytes v.key && all_bytes v.value) f)

-- the stage holds it without its value
pub bare_fits : (v : Version) → fits v ≡ true → fits_memory (version v.key v.moment v.gone []) ≡ true
unfolding fits_memory every limits
bare_fits v f =
    let l = limits_of v f in
    rw (le-leb 1 (length v.key) (omega (arith, l)), le-leb (length v.key) 255 (omega (arith, l)), key_bytes v f, lt-ltb v.moment 18446744073709551616 (omega (arith, l))) refl

-- THE BOUND is that of the version before
module _ (n pages : ℕ) (h : House) (j : Job n pages h) (m : List ℕ) (v : Version) where
  pub bound_is : (c : ℕ) (p : List Version) → Staged n pages h j m c p → bound_after c m v.key ≡ bound_of p v
  unfolding bound_of
  bound_is c p none_yet = refl
  bound_is c p (last_given d u a b) = rw (ne_eqb (suc d) 0 (λ z. omega arith)) (λ i. pick (same (a i) v.key) (b i) no_bound)

pub brought_bytes : (b : Bool) (s : ℕ) (v : Version) → fits v ≡ true → all_bytes (brought b s v) ≡ true
brought_bytes true s v f = every_append is_byte (bytes_of 8 s) (encoding v) (all_bytes_of 8 s) (all_bytes_encoding v f)
brought_bytes false s v f = all_bytes_encoding v f

pub brought_long : (b : Bool) (s : ℕ) (v : Version) → fits v ≡ true → length (brought b s v) ≤ 1302
brought_long true s v f = omega (arith, length-append (bytes_of 8 s) (encoding v), length_bytes_of 8 s, length_encoding v, (short_version v (fits_limits v f)).1)
brought_long false s v f = omega (arith, length_encoding v, (short_version v (fits_limits v f)).1)

pub brought_some : (b : Bool) (s : ℕ) (v : Version) → fits v ≡ true → 16 ≤ length (brought b s v)
brought_some true s v f = omega (arith, length-append (bytes_of 8 s) (encoding v), length_encoding v, (short_version v (fits_limits v f)).0)
brought_some false s v f = omega (arith, length_encoding v, (short_version v (fits_limits v f)).0)

-- THE REGIONS, one change after the other
module _ (m : List ℕ) (long : length m ≡ memory_words) (bs : List ℕ) where
  hand_keeps : length (put_octets 0 bs (hand_of m)) ≡ 1310
  hand_keeps = put_octets_long 0 bs (hand_of m) ∙ length_region 150202 1310 m (omega arith)

  pub hand_long : length (in_hand bs m) ≡ memory_words
  unfolding in_hand
  hand_long = length_within 150202 1310 (put_octets 0 bs) m (omega arith) hand_keeps ∙ long

  pub hand_below : (a c : ℕ) → a + c ≤ 150202 → region a c (in_hand bs m) ≡ region a c m
  unfolding in_hand
  hand_below a c x = region_below 150202 1310 a c (put_octets 0 bs) m (omega arith) x

  pub hand_above : (a c : ℕ) → 151512 ≤ a → region a c (in_hand bs m) ≡ region a c m
  unfolding in_hand
  hand_above a c x = region_above 150202 1310 a c (put_octets 0 bs) m (omega arith) hand_keeps (omega arith)

  -- the bytes are in hand
  pub hand_there : all_bytes bs ≡ true → length bs ≤ 1302 → octets (length bs) (hand_of (in_hand bs m)) ≡ bs
  unfolding in_hand octets
  hand_there b l =
      let z : 0 + length bs ≡ length bs = omega arith in
      ap (octets (length bs)) (region_same 150202 1310 (put_octets 0 bs) m (omega arith) hand_keeps)
      ∙ ap (λ i. octets i (put_octets 0 bs (hand_of m))) (sym z) ∙ octets_put 0 bs (hand_of m) (omega (arith, length_region 150202 1310 m (omega arith)))
      ∙ octets_bytes (length bs) bs bs (take_all (length bs) bs (omega arith)) refl b

module _ (w : Writer) (m : List ℕ) (long : length m ≡ memory_words) where
  entry_keeps : length (put_octets w.positions.fill (entry w.block.begin w.block.used) (entries_of m)) ≡ 504
  entry_keeps = put_octets_long w.positions.fill (entry w.block.begin w.block.used) (entries_of m) ∙ length_region 152016 504 m (omega arith)

  pub ended_none : eqb w.block.count 0 ≡ true → ended_block w m ≡ m
  unfolding ended_block
  ended_none e = rw e refl

  pub ended_long : length (ended_block w m) ≡ memory_words
  unfolding ended_block
  ended_long = go (eqb w.block.count 0)
    where
      go : (b : Bool) → length (pick b m (within 152016 504 (put_octets w.positions.fill (entry w.block.begin w.block.used)) m)) ≡ memory_words
      go true = long
      go false = length_within 152016 504 (put_octets w.positions.fill (entry w.block.begin w.block.used)) m (omega arith) entry_keeps ∙ long

  pub ended_below : (a c : ℕ) → a + c ≤ 152016 → region a c (ended_block w m) ≡ region a c m
  unfolding ended_block
  ended_below a c x = go (eqb w.block.count 0)
    where
      go : (b : Bool) → region a c (pick b m (within 152016 504 (put_octets w.positions.fill (entry w.block.begin w.block.used)) m)) ≡ region a c m
      go true = refl
      go false = region_below 152016 504 a c (put_octets w.positions.fill (entry w.block.begin w.block.used)) m (omega arith) x

  entry_bytes : all_bytes (entry w.block.begin w.block.used) ≡ true
  unfolding entry
  entry_bytes = every_append is_byte (bytes_of 4 w.block.begin) (bytes_of 4 w.block.used) (all_bytes_of 4 w.block.begin) (all_bytes_of 4 w.block.used)

  -- the entry of the block being written is behind the others
  pub ended_there : (eqb w.block.count 0 ≡ false) → w.positions.fill + 8 ≤ 504 →
      octets (w.positions.fill + 8) (entries_of (ended_block w m)) ≡ octets w.positions.fill (entries_of m) ++ entry w.block.begin w.block.used
  unfolding ended_block
  ended_there e x =
      let y = entry w.block.begin w.block.used in
      let l : length (entry w.block.begin w.block.used) ≡ 8 = length_entry w.block.begin w.block.used in
      rw e (ap (octets (w.positions.fill + 8)) (region_same 152016 504 (put_octets w.positions.fill (entry w.block.begin w.block.used)) m (omega arith) entry_keeps)
      ∙ ap (λ i. octets (w.positions.fill + i) (put_octets w.positions.fill (entry w.block.begin w.block.used) (entries_of m))) (sym l)
      ∙ octets_put w.positions.fill (entry w.block.begin w.block.used) (entries_of m) (omega (arith, l, length_region 152016 504 m (omega arith)))
      ∙ ap (λ z. octets w.positions.fill (entries_of m) ++ z) (octets_bytes (length y) y y (take_all (length y) y (omega arith)) refl entry_bytes))

module _ (m : List ℕ) (long : length m ≡ memory_words) (v : Version) where
  stage_keeps : length (appended (stage_region m) 0 v) ≡ 162
  stage_keeps = (append_keeps (stage_region m) 0 v).0 ∙ length_region 147520 162 m (omega arith)

  pub staged_long : length (staged v m) ≡ memory_words
  unfolding staged
  staged_long = length_within 147520 162 (λ x. appended x 0 v) m (omega arith) stage_keeps ∙ long

  pub staged_above : (a c : ℕ) → 147682 ≤ a → region a c (staged v m) ≡ region a c m
  unfolding staged
  staged_above a c x = region_above 147520 162 a c (λ y. appended y 0 v) m (omega arith) stage_keeps (omega arith)

  pub staged_below : (a c : ℕ) → a + c ≤ 147520 → region a c (staged v m) ≡ region a c m
  unfolding staged
  staged_below a c x = region_below 147520 162 a c (λ y. appended y 0 v) m (omega arith) x

  pub staged_there : fits_memory v ≡ true → version_at (stage_region (staged v m)) 0 ≡ v
  unfolding staged
  staged_there f = ap (λ x. version_at x 0) (region_same 147520 162 (λ y. appended y 0 v) m (omega arith) stage_keeps) ∙ stage_reads (stage_region m) v (length_region 147520 162 m (omega arith)) f
