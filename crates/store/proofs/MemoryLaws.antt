-- The machine's memory seen through its parts: what a write to one part leaves of the others.
use Rattle.std.proofs.Common.{◌≡◌, ℕ, ◌<◌, ◌≤◌, List, [], ◌∷◌, length, take, set, refl, ap, ◌∙◌, arith, length-set}
use Rattle.std.proofs.lemmas.List.{drop-set-lt}
use Rattle.value.specs.Versions.{Version}
use Rattle.memtable.specs.Arena.{appended}
use Rattle.memtable.specs.Index.{entered}
use Rattle.memtable.specs.declared.memtable.Memtable.{Memtable}
use Rattle.memtable.proofs.SteadyLaws.{append_keeps, enter_keeps}
use Rattle.store.specs.Control.{memory_words, control, phase_of, phase_number, control_of, put_control}
use Rattle.store.specs.Regions.{wrap, region, index_of, arena_of, in_arena, in_index}
use Rattle.store.proofs.RegionLaws.{length_within, region_same, region_above, region_below, length_region}
use Rattle.store.specs.declared.control.Phase.{Phase}
use Rattle.store.specs.declared.control.Phase.TheVariants.{Idle, Shown}
use Rattle.store.specs.declared.control.Control.{Control}

region_set : (b k i v : ℕ) (m : List ℕ) → i < b → region b k (set m i v) ≡ region b k m
unfolding region
region_set b k i v m h = ap (take k) (drop-set-lt b m i v h)

-- CONTROL WORDS are in no region, and come back as they were put
pub region_put : (b n : ℕ) (m : List ℕ) (k : Control) → 64 ≤ b → region b n (put_control m k) ≡ region b n m
unfolding put_control
region_put b n m k h =
    region_set b n 5 _ _ (omega arith) ∙ region_set b n 4 _ _ (omega arith) ∙ region_set b n 3 _ _ (omega arith)
    ∙ region_set b n 2 _ _ (omega arith) ∙ region_set b n 1 _ _ (omega arith) ∙ region_set b n 0 _ m (omega arith)

pub length_put : (m : List ℕ) (k : Control) → length (put_control m k) ≡ length m
unfolding put_control
length_put m k = simp length-set

phase_back : (p : Phase) → phase_of (phase_number p) ≡ p
phase_back Idle = refl
phase_back Shown = refl

pub control_put :
    (m : List ℕ) (p : Phase) (pages last : ℕ) (t : Memtable) → length m ≡ memory_words → pages < 18446744073709551616 → last < 18446744073709551616 →
    t.versions < 18446744073709551616 → t.used < 18446744073709551616 → t.weight < 18446744073709551616 →
    control_of (put_control m (control p pages last t)) ≡ control p pages last t
unfolding control_of put_control
control_put [] p pages last t l a b c d e = absurd (omega arith)
control_put (x₀ ∷ []) p pages last t l a b c d e = absurd (omega arith)
control_put (x₀ ∷ x₁ ∷ []) p pages last t l a b c d e = absurd (omega arith)
control_put (x₀ ∷ x₁ ∷ x₂ ∷ []) p pages last t l a b c d e = absurd (omega arith)
control_put (x₀ ∷ x₁ ∷ x₂ ∷ x₃ ∷ []) p pages last t l a b c d e = absurd (omega arith)
control_put (x₀ ∷ x₁ ∷ x₂ ∷ x₃ ∷ x₄ ∷ []) p pages last t l a b c d e = absurd (omega arith)
control_put (x₀ ∷ x₁ ∷ x₂ ∷ x₃ ∷ x₄ ∷ x₅ ∷ xs) p pages last t l a b c d e =
    let e₁ : wrap pages ≡ pages = omega arith in
    let e₂ : wrap last ≡ last = omega arith in
    let e₃ : wrap t.versions ≡ t.versions = omega arith in
    let e₄ : wrap t.used ≡ t.used = omega arith in
    let e₅ : wrap t.weight ≡ t.weight = omega arith in
    (λ i. control (phase_back p i) (e₁ i) (e₂ i) record { versions = e₃ i; used = e₄ i; weight = e₅ i })

-- THE ARENA AND THE INDEX
module _ (m : List ℕ) (l : length m ≡ memory_words) where
  index_long : length (index_of m) ≡ 16384
  index_long = length_region 64 16384 m (omega arith)

  arena_long : length (arena_of m) ≡ 131072
  arena_long = length_region 16448 131072 m (omega arith)

  pub length_in_arena : (used : ℕ) (v : Version) → length (in_arena used v m) ≡ length m
  unfolding in_arena
  length_in_arena used v = length_within 16448 131072 (λ x. appended x used v) m (omega arith) ((append_keeps (arena_of m) used v).0 ∙ arena_long)

  pub arena_in_arena : (used : ℕ) (v : Version) → arena_of (in_arena used v m) ≡ appended (arena_of m) used v
  unfolding in_arena
  arena_in_arena used v = region_same 16448 131072 (λ x. appended x used v) m (omega arith) ((append_keeps (arena_of m) used v).0 ∙ arena_long)

  pub index_in_arena : (used : ℕ) (v : Version) → index_of (in_arena used v m) ≡ index_of m
  unfolding in_arena
  index_in_arena used v = region_below 16448 131072 64 16384 (λ x. appended x used v) m (omega arith) (omega arith)

  pub length_in_index : (t : Memtable) (place : ℕ) → length (in_index t place m) ≡ length m
  unfolding in_index
  length_in_index t place = length_within 64 16384 (λ x. entered x t.versions place t.used) m (omega arith) ((enter_keeps (index_of m) t.versions place t.used).0 ∙ index_long)

  pub index_in_index : (t : Memtable) (place : ℕ) → index_of (in_index t place m) ≡ entered (index_of m) t.versions place t.used
  unfolding in_index
  index_in_index t place = region_same 64 16384 (λ x. entered x t.versions place t.used) m (omega arith) ((enter_keeps (index_of m) t.versions place t.used).0 ∙ index_long)

  pub arena_in_index : (t : Memtable) (place : ℕ) → arena_of (in_index t place m) ≡ arena_of m
  unfolding in_index
  arena_in_index t place =
      region_above 64 16384 16448 131072 (λ x. entered x t.versions place t.used) m (omega arith) ((enter_keeps (index_of m) t.versions place t.used).0 ∙ index_long) (omega arith)
