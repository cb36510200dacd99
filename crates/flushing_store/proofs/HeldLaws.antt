-- What memory holds of a house between two steps: the versions that are not safe, and the list of tables that names the others; and what keeps that.
use Rattle.std.proofs.Common.{◌≡◌, ℕ, ◌+◌, ◌*◌, ◌<◌, ◌≤◌, true, List, ◌++◌, length, sym, ap, ◌∙◌, subst, arith}
use Rattle.value.specs.Versions.{every, Version, weight}
use Rattle.value.specs.Rising.{rising, last_moment}
use Rattle.value.specs.Encoding.{fits}
use Rattle.memtable.specs.Holds.{Holds}
use Rattle.memtable.specs.declared.memtable.Memtable.{Memtable}
use Rattle.memtable.proofs.AnswerLaws.{sizes_suffice}
use Rattle.manifest.specs.Manifest.{Fits}
use Rattle.manifest.specs.declared.fields.Manifest.{Manifest}
use Rattle.store.specs.House.{House}
use Rattle.flushing_store.specs.Control.{memory_words, base, base_from, manifest_from, control_of, put_control}
use Rattle.store.specs.Regions.{region, within, index_of, arena_of}
use Rattle.flushing_store.specs.declared.control.Phase.{Phase}
use Rattle.flushing_store.specs.declared.control.Control.{Control}
use Rattle.flushing_store.proofs.RegionLaws.{region_put, length_put, SmallBase, base_put, manifest_put}
use Rattle.store.proofs.RegionLaws.{length_within, region_below}

pub record Held (pages : ℕ) (h : House) (f : Manifest) (p : Phase) (m : List ℕ) : Type 0 where
  -- those that are not safe
  pub fresh : List Version
  pub table : Memtable
  pub all_is : h.versions ≡ h.safe ++ fresh
  pub long : length m ≡ memory_words
  pub base_is : (control_of m).base ≡ base p pages h.last table
  pub manifest_is : (control_of m).manifest ≡ f
  pub holds : Holds (index_of m) (arena_of m) table fresh
  pub rises : rising h.versions ≡ true
  pub last_is : h.last ≡ last_moment h.versions
  pub early : h.last < 9223372036854775808
  pub few : pages ≤ 1048576
  pub none_low : h.low ≡ 0
  pub fit : every fits fresh ≡ true
  pub room : weight h.versions ≤ 128 * pages
  pub fits_list : Fits f

-- the memtable's counts are small
pub counts_small : (i a : List ℕ) (t : Memtable) (vs : List Version) → Holds i a t vs → (t.versions ≤ 16131) × (t.used ≤ 131072) × (t.weight ≤ 1048576)
counts_small i a t vs o =
    let (n, u) = sizes_suffice vs o.fit o.light in
    (omega (arith, o.counted), omega (arith, o.ended), omega (arith, o.weighed, o.light))

pub small_base : (p : Phase) (pages last : ℕ) (t : Memtable) (i a : List ℕ) (vs : List Version) → pages ≤ 1048576 → last < 9223372036854775808 → Holds i a t vs → SmallBase (base p pages last t)
small_base p pages last t i a vs f e o =
    let (n, u, w) = counts_small i a t vs o in
    record { pages = omega arith; last = omega arith; versions = omega arith; used = omega arith; weight = omega arith }

module _ (pages : ℕ) (h : House) (f : Manifest) (p : Phase) (m : List ℕ) (o : Held pages h f p m) where
  -- another phase, and whatever else control has
  pub held_put : (q : Phase) (k : Control) → k.base ≡ base q pages h.last o.table → k.manifest ≡ f → Held pages h f q (put_control m k)
  held_put q k b e = record {
    fresh = o.fresh;
    table = o.table;
    all_is = o.all_is;
    long = length_put m k o.long;
    base_is = base_put m k o.long (subst SmallBase (sym b) (small_base q pages h.last o.table (index_of m) (arena_of m) o.fresh o.few o.early o.holds)) ∙ b;
    manifest_is = manifest_put m k o.long (subst Fits (sym e) o.fits_list) ∙ e;
    holds = subst (λ x. Holds x (arena_of (put_control m k)) o.table o.fresh) (sym (region_put m k o.long 64 16384 (omega arith)))
        (subst (λ x. Holds (index_of m) x o.table o.fresh) (sym (region_put m k o.long 16448 131072 (omega arith))) o.holds);
    rises = o.rises;
    last_is = o.last_is;
    early = o.early;
    few = o.few;
    none_low = o.none_low;
    fit = o.fit;
    room = o.room;
    fits_list = o.fits_list;
  }

  -- a change behind the arena
  pub held_within : (a n : ℕ) (g : List ℕ → List ℕ) → 147520 ≤ a → a + n ≤ memory_words → length (g (region a n m)) ≡ n → Held pages h f p (within a n g m)
  unfolding control_of
  held_within a n g lo hi e =
      let fits : a + n ≤ length m = omega (arith, o.long) in
      record {
        fresh = o.fresh;
        table = o.table;
        all_is = o.all_is;
        long = length_within a n g m fits e ∙ o.long;
        base_is = ap base_from (region_below a n 0 6 g m fits (omega arith)) ∙ o.base_is;
        manifest_is = ap manifest_from (region_below a n 6 15 g m fits (omega arith)) ∙ o.manifest_is;
        holds = subst (λ x. Holds x (arena_of (within a n g m)) o.table o.fresh) (sym (region_below a n 64 16384 g m fits (omega arith)))
            (subst (λ x. Holds (index_of m) x o.table o.fresh) (sym (region_below a n 16448 131072 g m fits (omega arith))) o.holds);
        rises = o.rises;
        last_is = o.last_is;
        early = o.early;
        few = o.few;
        none_low = o.none_low;
        fit = o.fit;
        room = o.room;
        fits_list = o.fits_list;
      }
