-- A table's block by its number: it has a first version, its versions are in limits, its bytes and its bound have room, and it ends within the stream.
use Rattle.std.proofs.Common.{◌≡◌, ℕ, zero, suc, ◌+◌, ◌^◌, ◌<◌, ◌≤◌, Bool, true, false, ltb, List, [], ◌∷◌, ◌++◌, length, get_or, take, drop, sym, refl, ap, ◌∙◌, arith, length-append}
use Rattle.std.proofs.lemmas.List.{length-drop}
use Rattle.std.proofs.lemmas.Bool.{ltb-true}
use Rattle.value.specs.Versions.{pick, every, same, Version}
use Rattle.value.specs.Encoding.{limits, in_limits}
use Rattle.value.proofs.TestLaws.{and_left_of, and_right_of}
use Rattle.table.specs.Blocks.{no_bound, bound_of, last_one}
use Rattle.table.specs.Layout.{block_limit, blocks, block_bytes, table_stream}
use Rattle.table.specs.Sizes.{joined, block_length, AllShort}
use Rattle.table.specs.Lies.{block_begin, before_block}
use Rattle.table.proofs.BlockLaws.{every_front, every_back}
use Rattle.table.proofs.SearchLaws.{some_at, joined_split}
use Rattle.table.proofs.SizeLaws.{blocks_hold, blocks_short}
use Rattle.table.proofs.LieLaws.{block_there}

pub record BlockAt (us : List Version) (i : ℕ) : Type 0 where
  pub head : Version
  pub tail : List Version
  pub is : get_or (blocks us) i [] ≡ head ∷ tail
  pub fits : every in_limits (head ∷ tail) ≡ true
  pub short : block_length (get_or (blocks us) i []) ≤ block_limit
  pub bound_small : bound_of (before_block (blocks us) i) head < 18446744073709551616
  pub ends : block_begin (blocks us) i + block_length (get_or (blocks us) i []) ≤ length (table_stream us)
  pub long : length (block_bytes (before_block (blocks us) i) (get_or (blocks us) i [])) ≡ block_length (get_or (blocks us) i [])

short_at : (bs : List (List Version)) (i : ℕ) → AllShort bs → i < length bs → block_length (get_or bs i []) ≤ block_limit
short_at [] i s h = absurd (omega arith)
short_at (b ∷ bs) zero s h = s.0
short_at (b ∷ bs) (suc i) s h = short_at bs i s.1 (omega arith)

every_last : (f : Version → Bool) (p xs : List Version) → every f p ≡ true → every f xs ≡ true → every f (last_one p xs) ≡ true
unfolding last_one every
every_last f p [] h g = h
every_last f p (x ∷ xs) h g = every_last f (x ∷ []) xs (rw (and_left_of (f x) (every f xs) g) refl) (and_right_of (f x) (every f xs) g)

moment_small : (v : Version) → in_limits v ≡ true → v.moment < 18446744073709551616
unfolding limits
moment_small v h =
    let k : ℕ = length v.key in
    let one = and_right_of (ltb 0 k) _ h in
    let two = and_right_of (ltb k 256) _ one in
    omega (arith, ltb-true v.moment (2 ^ 63) (and_left_of (ltb v.moment (2 ^ 63)) _ two))

bound_fits : (p : List Version) (v : Version) → every in_limits p ≡ true → bound_of p v < 18446744073709551616
unfolding bound_of every
bound_fits [] v h = omega arith
bound_fits (u ∷ us) v h = go (same u.key v.key)
  where
    go : (b : Bool) → pick b u.moment no_bound < 18446744073709551616
    go true = moment_small u (and_left_of (in_limits u) (every in_limits us) h)
    go false = omega arith

pub block_at : (us : List Version) (i : ℕ) → every in_limits us ≡ true → i < length (blocks us) → BlockAt us i
unfolding every
block_at us i f h = go (get_or (blocks us) i []) refl
  where
    bs : List (List Version)
    bs = blocks us

    both : every in_limits (joined (take i bs) ++ get_or bs i []) ≡ true
    both =
        every_front in_limits (joined (take i bs) ++ get_or bs i []) (joined (drop (suc i) bs))
        (ap (every in_limits) (sym (joined_split bs i h) ∙ (blocks_hold us).0) ∙ f)

    here : every in_limits (get_or bs i []) ≡ true
    here = every_back in_limits (joined (take i bs)) (get_or bs i []) both

    last : every in_limits (before_block bs i) ≡ true
    last = every_last in_limits [] (joined (take i bs)) refl (every_front in_limits (joined (take i bs)) (get_or bs i []) both)

    ends : block_begin bs i + block_length (get_or bs i []) ≤ length (table_stream us)
    ends =
        let ((more, s), g, e) = block_there us i h in
        let x = block_bytes (before_block bs i) (get_or bs i []) in
        omega (arith, g, ap length s, length-append x more, length-drop (block_begin bs i) (table_stream us))

    go : (b : List Version) → get_or bs i [] ≡ b → BlockAt us i
    go [] e = absurd (omega (arith, some_at bs i (blocks_hold us).1 h, ap length e))
    go (v ∷ vs) e = record {
      head = v;
      tail = vs;
      is = e;
      fits = ap (every in_limits) (sym e) ∙ here;
      short = short_at bs i (blocks_short us f) h;
      bound_small = bound_fits (before_block bs i) v last;
      ends = ends;
      long = (block_there us i h).1;
    }
