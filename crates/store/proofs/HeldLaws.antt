-- What memory holds of a house between two steps: every version that came, none of them safe; and how a write keeps that.
use Rattle.std.proofs.Common.{◌≡◌, ℕ, ◌<◌, ◌≤◌, true, List, [], length, sym, refl, ◌∙◌, subst, arith}
use Rattle.value.specs.Versions.{Version}
use Rattle.value.specs.Rising.{rising, last_moment}
use Rattle.memtable.specs.Memtable.{none}
use Rattle.memtable.specs.Holds.{Holds}
use Rattle.memtable.specs.declared.memtable.Memtable.{Memtable}
use Rattle.memtable.proofs.AnswerLaws.{empty_right, sizes_suffice}
use Rattle.store.specs.House.{House, house}
use Rattle.store.specs.Control.{memory_words, control, control_of, put_control}
use Rattle.store.specs.Regions.{index_of, arena_of}
use Rattle.store.specs.declared.control.Phase.{Phase}
use Rattle.store.specs.declared.control.Phase.TheVariants.{Idle}
use Rattle.store.proofs.MemoryLaws.{region_put, length_put, control_put}

pub record Held (pages : ℕ) (h : House) (p : Phase) (m : List ℕ) : Type 0 where
  pub table : Memtable
  pub long : length m ≡ memory_words
  pub control_is : control_of m ≡ control p pages h.last table
  pub holds : Holds (index_of m) (arena_of m) table h.versions
  pub rises : rising h.versions ≡ true
  pub last_is : h.last ≡ last_moment h.versions
  pub early : h.last < 9223372036854775808
  pub few : pages ≤ 1048576
  pub none_safe : h.safe ≡ []
  pub none_low : h.low ≡ 0

-- the memtable's counts are small
counts_small : (i a : List ℕ) (t : Memtable) (vs : List Version) → Holds i a t vs → (t.versions ≤ 16131) × (t.used ≤ 131072) × (t.weight ≤ 1048576)
counts_small i a t vs o =
    let (n, u) = sizes_suffice vs o.fit o.light in
    (omega (arith, o.counted), omega (arith, o.ended), omega (arith, o.weighed, o.light))

-- control words that are put come back, whatever the phase
pub put_held : (m : List ℕ) (p : Phase) (pages last : ℕ) (t : Memtable) (i a : List ℕ) (vs : List Version) → length m ≡ memory_words → pages ≤ 1048576 → last < 9223372036854775808 → Holds i a t vs →
    control_of (put_control m (control p pages last t)) ≡ control p pages last t
put_held m p pages last t i a vs l f e o =
    let (n, u, w) = counts_small i a t vs o in
    control_put m p pages last t l (omega arith) (omega arith) (omega arith) (omega arith) (omega arith)

-- another phase, and all else as it was
pub held_phase : (pages : ℕ) (h : House) (p q : Phase) (m : List ℕ) (o : Held pages h p m) → Held pages h q (put_control m (control q pages h.last o.table))
held_phase pages h p q m o =
    let k = control q pages h.last o.table in
    record {
      table = o.table;
      long = length_put m k ∙ o.long;
      control_is = put_held m q pages h.last o.table (index_of m) (arena_of m) h.versions o.long o.few o.early o.holds;
      holds = subst (λ x. Holds x (arena_of (put_control m k)) o.table h.versions) (sym (region_put 64 16384 m k (omega arith)))
          (subst (λ x. Holds (index_of m) x o.table h.versions) (sym (region_put 16448 131072 m k (omega arith))) o.holds);
      rises = o.rises;
      last_is = o.last_is;
      early = o.early;
      few = o.few;
      none_safe = o.none_safe;
      none_low = o.none_low;
    }

-- power is there: memory holds the empty house
pub held_empty : (pages : ℕ) (m : List ℕ) → length m ≡ memory_words → pages ≤ 1048576 → Held pages (house [] [] 0 0) Idle (put_control m (control Idle pages 0 none))
unfolding rising last_moment
held_empty pages m l f =
    let k = control Idle pages 0 none in
    record {
      table = none;
      long = length_put m k ∙ l;
      control_is = control_put m Idle pages 0 none l (omega arith) (omega arith) (omega arith) (omega arith) (omega arith);
      holds = empty_right (index_of (put_control m k)) (arena_of (put_control m k));
      rises = refl;
      last_is = refl;
      early = omega arith;
      few = f;
      none_safe = refl;
      none_low = refl;
    }
