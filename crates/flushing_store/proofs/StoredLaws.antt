-- Pages at rest: what they hold, that other pages do not matter, and that blank pages hold nothing.
use Rattle.std.proofs.Common.{◌≡◌, ℕ, zero, suc, ◌+◌, ◌-◌, ◌*◌, ◌<◌, ◌≤◌, true, eqb, ◌⊎◌, List, [], ◌∷◌, length, sym, refl, ap, ◌∙◌, subst, inl, inr, ⊎_elim, arith, eqb-true}
use Rattle.std.proofs.lemmas.List.{take_all}
use Rattle.std.proofs.lemmas.Bool.{cases_lt}
use Rattle.value.specs.Versions.{every, Version, weight, added_up}
use Rattle.value.specs.Rising.{rising, last_moment}
use Rattle.value.specs.Numbers.{all_bytes}
use Rattle.value.specs.Encoding.{fits}
use Rattle.value.specs.Sorted.{sort}
use Rattle.value.proofs.TestLaws.{and_left_of, and_right_of}
use Rattle.table.specs.Device.{Page, page_at, blank, zeros, a_page}
use Rattle.table.specs.Layout.{blocks, table_stream, stream_from, table_entries}
use Rattle.table.specs.Sizes.{page_count}
use Rattle.table.specs.Lies.{Lies}
use Rattle.table.specs.Lookup.{There}
use Rattle.table.specs.Row.{octets}
use Rattle.table.specs.Cursor.{OfBytes}
use Rattle.table.proofs.DeviceLaws.{length_blank, page_blank}
use Rattle.table.proofs.LieLaws.{lies_elsewhere}
use Rattle.table.proofs.RowLaws.{octets_bytes}
use Rattle.manifest.specs.Manifest.{word_at, manifest_in, is_whole, empty_manifest, Fits}
use Rattle.manifest.specs.Places.{slot_of, InHalf}
use Rattle.manifest.specs.Commit.{Committed}
use Rattle.manifest.specs.declared.fields.Manifest.{Manifest}
use Rattle.manifest.proofs.CommitLaws.{blank_is_empty}
use Rattle.flushing_store.specs.Look.{extent_of}

-- every page is a page: 512 bytes
abbrev pub AllPages : List Page → Type 0
AllPages ps = (k : ℕ) → k < length ps → a_page (page_at ps k) ≡ true

-- the table's pages lie in the half in use
pub record InPlace (pages : ℕ) (vs : List Version) (f : Manifest) : Type 0 where
  pub entries : (i : ℕ) → i < page_count (length (table_entries (sort vs))) → InHalf pages f.layout.half (f.table.start + i)
  pub stream : (i : ℕ) → i < page_count (length (table_stream (sort vs))) → InHalf pages f.layout.half (f.table.data_at + i)

pub record Stored (pages : ℕ) (vs : List Version) (f : Manifest) (ps : List Page) : Type 0 where
  pub committed : Committed f ps
  pub fits_list : Fits f
  pub sized : length ps ≡ pages
  pub many : 64 ≤ pages
  pub few : pages ≤ 1048576
  pub there : There (extent_of f) ps vs
  pub in_place : InPlace pages vs f
  pub weighs : f.weight.all ≡ weight vs
  pub room : weight vs ≤ 128 * pages
  pub last_is : f.moments.last ≡ last_moment vs
  pub low_is : f.moments.low ≡ 0
  pub fit : every fits vs ≡ true
  pub early : last_moment vs < 9223372036854775808
  pub all_pages : AllPages ps

-- OTHER PAGES DO NOT MATTER
abbrev pub SameThere : ℕ → Manifest → List Page → List Page → Type 0
SameThere pages f ps qs = (k : ℕ) → (k < 3) ⊎ InHalf pages f.layout.half k → page_at qs k ≡ page_at ps k

same_committed : (f : Manifest) (ps qs : List Page) → length qs ≡ length ps → ((k : ℕ) → k < 3 → page_at qs k ≡ page_at ps k) → Committed f ps → Committed f qs
same_committed f ps qs l s c = record {
  room = omega (arith, c.room);
  says = ap manifest_in (s (slot_of f.commit) (omega arith)) ∙ c.says;
  whole = ap is_whole (s (slot_of f.commit) (omega arith)) ∙ c.whole;
  older = subst (λ p. word_at 62 p ≤ f.commit - 1) (sym (s (slot_of (suc f.commit)) (omega arith))) c.older;
}

-- the same list holds, and the table's pages are the same
pub stored_with : (pages : ℕ) (vs : List Version) (f : Manifest) (ps qs : List Page) → Stored pages vs f ps → length qs ≡ length ps → Committed f qs →
    ((k : ℕ) → InHalf pages f.layout.half k → page_at qs k ≡ page_at ps k) → AllPages qs → Stored pages vs f qs
stored_with pages vs f ps qs o l c s a = record {
  committed = c;
  fits_list = o.fits_list;
  sized = l ∙ o.sized;
  many = o.many;
  few = o.few;
  there = record {
    lies = lies_elsewhere f.table.start f.table.data_at f.table.blocks ps qs vs (λ i h. s _ (o.in_place.entries i h)) (λ i h. s _ (o.in_place.stream i h)) o.there.lies;
    start_small = o.there.start_small;
    data_small = o.there.data_small;
    few = o.there.few;
    short = o.there.short;
  };
  in_place = o.in_place;
  weighs = o.weighs;
  room = o.room;
  last_is = o.last_is;
  low_is = o.low_is;
  fit = o.fit;
  early = o.early;
  all_pages = a;
}

pub stored_same : (pages : ℕ) (vs : List Version) (f : Manifest) (ps qs : List Page) → Stored pages vs f ps → length qs ≡ length ps → SameThere pages f ps qs → AllPages qs → Stored pages vs f qs
stored_same pages vs f ps qs o l s a = stored_with pages vs f ps qs o l (same_committed f ps qs l (λ k h. s k (inl h)) o.committed) (λ k h. s k (inr h)) a

-- A PAGE THAT IS READ
pub page_long : (p : Page) → a_page p ≡ true → length p ≡ 512
page_long p h = eqb-true (length p) 512 (and_left_of (eqb (length p) 512) (all_bytes p) h)

pub page_bytes : (p : Page) → a_page p ≡ true → all_bytes p ≡ true
page_bytes p h = and_right_of (eqb (length p) 512) (all_bytes p) h

-- of a page 512 bytes count, and they are the page
pub page_cut : (p : Page) → a_page p ≡ true → octets 512 p ≡ p
page_cut p h = octets_bytes 512 p p (take_all 512 p (omega (arith, page_long p h))) (page_long p h) (page_bytes p h)

pub page_none : (ps : List Page) (k : ℕ) → length ps ≤ k → page_at ps k ≡ []
unfolding page_at
page_none [] k h = refl
page_none (q ∷ qs) zero h = absurd (omega arith)
page_none (q ∷ qs) (suc k) h = page_none qs k (omega arith)

pub of_bytes : (ps : List Page) → AllPages ps → OfBytes ps
unfolding every
of_bytes ps a k = ⊎_elim (λ h. page_bytes (page_at ps k) (a k h)) (λ h. ap all_bytes (page_none ps k h)) (cases_lt k (length ps))

-- BLANK PAGES
bytes_zeros : (n : ℕ) → all_bytes (zeros n) ≡ true
unfolding every zeros
bytes_zeros zero = refl
bytes_zeros (suc n) = bytes_zeros n

blank_page : a_page (zeros 512) ≡ true
unfolding zeros every
blank_page = refl

blank_pages : (n : ℕ) → AllPages (blank n)
blank_pages n k h = ap a_page (page_blank n k (omega (arith, length_blank n))) ∙ blank_page

nothing_lies : (ps : List Page) → Lies 0 0 0 ps []
unfolding sort table_entries stream_from blocks every rising
nothing_lies ps = record { positions = refl; stream = refl; count = refl; fits = refl; rises = refl }

empty_fits : Fits empty_manifest
empty_fits = record {
  commit = omega arith;
  pages = omega arith;
  free = omega arith;
  last = omega arith;
  low = omega arith;
  all = omega arith;
  tables = omega arith;
  start = omega arith;
  first_data = omega arith;
  size = omega arith;
  blocks = omega arith;
  level = omega arith;
  latest = omega arith;
}

nothing_placed : (n : ℕ) → InPlace n [] empty_manifest
unfolding sort table_entries stream_from
nothing_placed n = record { entries = λ i h. absurd (omega arith); stream = λ i h. absurd (omega arith) }

nothing_long : length (table_stream (sort [])) ≡ 0
unfolding sort stream_from
nothing_long = refl

pub blank_stored : (n : ℕ) → 64 ≤ n → n ≤ 1048576 → Stored n [] empty_manifest (blank n)
unfolding last_moment every added_up
blank_stored n lo hi = record {
  committed = blank_is_empty n lo hi;
  fits_list = empty_fits;
  sized = length_blank n;
  many = lo;
  few = hi;
  there = record { lies = nothing_lies (blank n); start_small = omega arith; data_small = omega arith; few = omega arith; short = omega (arith, nothing_long) };
  in_place = nothing_placed n;
  weighs = refl;
  room = omega arith;
  last_is = refl;
  low_is = refl;
  fit = refl;
  early = omega arith;
  all_pages = blank_pages n;
}
