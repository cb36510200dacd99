-- What a cursor waits for, and which tests said so; blocks one behind another; and what stands in a block and in a list.
use Rattle.std.proofs.Common.{◌≡◌, ℕ, zero, suc, ◌+◌, ◌<◌, ◌≤◌, Bool, true, false, leb, List, [], ◌∷◌, ◌++◌, length, get_or, drop, sym, refl, ap, ◌∙◌, append_assoc, arith, length-append, eq-eqb}
use Rattle.std.proofs.lemmas.List.{drop_all}
use Rattle.value.specs.Versions.{pick, Version, added_up}
use Rattle.value.specs.Numbers.{number, part, bytes_of}
use Rattle.value.specs.Encoding.{encoding, encode_all, end_of}
use Rattle.value.proofs.NumberLaws.{number_bytes_of, length_bytes_of, all_bytes_of}
use Rattle.value.proofs.ListLaws.{encode_append}
use Rattle.value.specs.declared.version.Place.{Place}
use Rattle.table.specs.Blocks.{bound_of}
use Rattle.table.specs.Layout.{block_bytes, versions_length, entry}
use Rattle.table.specs.Sizes.{joined, block_length}
use Rattle.table.specs.Stream.{payload}
use Rattle.table.specs.Lies.{block_begin}
use Rattle.table.specs.Span.{capped}
use Rattle.table.specs.Writing.{wrap}
use Rattle.table.specs.Lookup.{an_entry}
use Rattle.table.specs.Row.{octets}
use Rattle.table.specs.Cursor.{a_cursor, list_with, advanced}
use Rattle.table.specs.declared.lookup.Entry.{Entry}
use Rattle.table.specs.declared.cursor.Cursor.{Cursor}
use Rattle.table.specs.declared.cursor.Want.{Want}
use Rattle.table.specs.declared.cursor.Want.TheVariants.{Positions, Data, Head, End}
use Rattle.table.proofs.SizeLaws.{length_encode_all}
use Rattle.table.proofs.LookupLaws.{entry_parts}
use Rattle.table.proofs.RowLaws.{octets_bytes}

-- WHAT IS WAITED FOR, and which tests said so
abbrev waits : (over unlisted unread : Bool) (m n : ℕ) → Want
waits over unlisted unread m n = pick over End (pick unlisted (Positions m) (pick unread (Data n) Head))

pub waits_positions : (a b d : Bool) (m n k : ℕ) → waits a b d m n ≡ Positions k → (a ≡ false) × (b ≡ true) × (m ≡ k)
waits_positions true b d m n k e = let z : ◌≡◌ {A = ℕ} 0 1 = cc in absurd (omega arith)
waits_positions false true d m n k e = (refl, refl, cc)
waits_positions false false true m n k e = let z : ◌≡◌ {A = ℕ} 0 1 = cc in absurd (omega arith)
waits_positions false false false m n k e = let z : ◌≡◌ {A = ℕ} 0 1 = cc in absurd (omega arith)

pub waits_data : (a b d : Bool) (m n k : ℕ) → waits a b d m n ≡ Data k → (a ≡ false) × (b ≡ false) × (d ≡ true) × (n ≡ k)
waits_data true b d m n k e = let z : ◌≡◌ {A = ℕ} 0 1 = cc in absurd (omega arith)
waits_data false true d m n k e = let z : ◌≡◌ {A = ℕ} 0 1 = cc in absurd (omega arith)
waits_data false false true m n k e = (refl, refl, refl, cc)
waits_data false false false m n k e = let z : ◌≡◌ {A = ℕ} 0 1 = cc in absurd (omega arith)

pub waits_head : (a b d : Bool) (m n : ℕ) → waits a b d m n ≡ Head → (a ≡ false) × (b ≡ false) × (d ≡ false)
waits_head true b d m n e = let z : ◌≡◌ {A = ℕ} 0 1 = cc in absurd (omega arith)
waits_head false true d m n e = let z : ◌≡◌ {A = ℕ} 0 1 = cc in absurd (omega arith)
waits_head false false true m n e = let z : ◌≡◌ {A = ℕ} 0 1 = cc in absurd (omega arith)
waits_head false false false m n e = (refl, refl, refl)

pub waits_end : (a b d : Bool) (m n : ℕ) → waits a b d m n ≡ End → a ≡ true
waits_end true b d m n e = refl
waits_end false true d m n e = let z : ◌≡◌ {A = ℕ} 0 1 = cc in absurd (omega arith)
waits_end false false true m n e = let z : ◌≡◌ {A = ℕ} 0 1 = cc in absurd (omega arith)
waits_end false false false m n e = let z : ◌≡◌ {A = ℕ} 0 1 = cc in absurd (omega arith)

-- a cursor that advances waits for no page again
pub advanced_pages : (c : Cursor) (e : Entry) (p : Place) → ((advanced c e p).listed ≡ c.listed) × ((advanced c e p).read ≡ c.read)
advanced_pages c e p = go (leb e.len (capped (end_of p)))
  where
    go : (b : Bool) →
        ((pick b (a_cursor (wrap (c.block + 1)) 8 c.listed c.read) (a_cursor c.block (capped (end_of p)) c.listed c.read)).listed ≡ c.listed)
        × ((pick b (a_cursor (wrap (c.block + 1)) 8 c.listed c.read) (a_cursor c.block (capped (end_of p)) c.listed c.read)).read ≡ c.read)
    go true = (refl, refl)
    go false = (refl, refl)

-- BLOCKS one behind another
pub joined_drop : (bs : List (List Version)) (i : ℕ) → i < length bs → joined (drop i bs) ≡ get_or bs i [] ++ joined (drop (suc i) bs)
unfolding joined
joined_drop [] i h = absurd (omega arith)
joined_drop (b ∷ bs) zero h = refl
joined_drop (b ∷ bs) (suc i) h = joined_drop bs i (omega arith)

pub joined_past : (bs : List (List Version)) (i : ℕ) → length bs ≤ i → joined (drop i bs) ≡ []
unfolding joined
joined_past bs i h = ap joined (drop_all i bs h)

pub begin_next : (bs : List (List Version)) (i : ℕ) → i < length bs → block_begin bs (suc i) ≡ block_begin bs i + block_length (get_or bs i [])
unfolding added_up
begin_next [] i h = absurd (omega arith)
begin_next (b ∷ bs) zero h = omega arith
begin_next (b ∷ bs) (suc i) h = let more = begin_next bs i (omega arith) in omega arith

-- a version of a block: what stands before it, and behind it
pub block_parts : (p passed : List Version) (v : Version) (more : List Version) →
    (xs : List ℕ) × (block_bytes p (passed ++ v ∷ more) ≡ xs ++ (encoding v ++ encode_all more)) × (length xs ≡ 8 + versions_length passed)
unfolding block_bytes encode_all added_up
block_parts p [] v more = (bytes_of 8 (bound_of p v), refl, length_bytes_of 8 (bound_of p v))
block_parts p (u ∷ us) v more =
    let bound = bytes_of 8 (bound_of p u) in
    let front = encode_all (u ∷ us) in (
      bound ++ front,
      ap (λ y. bound ++ y) (encode_append (u ∷ us) (v ∷ more)) ∙ sym (append_assoc bound front (encode_all (v ∷ more))),
      omega (arith, length-append bound front, length_bytes_of 8 (bound_of p u), length_encode_all (u ∷ us)),
    )

-- an entry's two numbers, of words
pub listed_reads : (list : List ℕ) (at b n : ℕ) → part at 8 list ≡ entry b n → b < 4294967296 → n < 4294967296 →
    an_entry (number (octets 4 (drop at list))) (number (octets 4 (drop (at + 4) list))) ≡ an_entry b n
listed_reads list at b n e hb hn =
    let (first, second) = entry_parts list at b n e in
    let B = octets_bytes 4 (drop at list) (bytes_of 4 b) first (length_bytes_of 4 b) (all_bytes_of 4 b) in
    let N = octets_bytes 4 (drop (at + 4) list) (bytes_of 4 n) second (length_bytes_of 4 n) (all_bytes_of 4 n) in
    λ j. an_entry ((ap number B ∙ number_bytes_of 4 b (omega arith)) j) ((ap number N ∙ number_bytes_of 4 n (omega arith)) j)

pub list_holds : (p list : List ℕ) → length list ≡ 504 → list_with p list ≡ payload p
unfolding list_with
list_holds p list e = rw (eq-eqb (length list) 504 e) refl
