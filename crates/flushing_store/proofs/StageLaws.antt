-- The version that a command under way is about is read from its place as it was put there.
use Rattle.std.proofs.Common.{◌≡◌, ℕ, ◌+◌, ◌/◌, true, leb, List, length, take, drop, sym, refl, ap, ◌∙◌, subst, arith, le-leb}
use Rattle.std.proofs.lemmas.List.{take_all, take_at}
use Rattle.value.specs.Versions.{Version, version}
use Rattle.memtable.specs.Words.{put_row}
use Rattle.memtable.specs.Arena.{key_at, value_at, moment_at, version_at, encoded, appended}
use Rattle.memtable.specs.Holds.{fits, Stands}
use Rattle.memtable.proofs.ReadLaws.{fits_parts, length_encoded}
use Rattle.memtable.proofs.SteadyLaws.{append_keeps}
use Rattle.flushing_store.specs.Control.{memory_words, stage_region}
use Rattle.flushing_store.specs.Stage.{staged, version_of}
use Rattle.store.proofs.RegionLaws.{length_region, region_same}
use Rattle.flushing_store.proofs.BytesLaws.{stage_reads}

stands : (ws : List ℕ) (v : Version) → length ws ≡ 162 → fits v ≡ true → Stands (take (length (encoded v)) (appended ws 0 v)) 0 v
unfolding Stands appended put_row
stands ws v l f =
    let p = fits_parts v f in
    let n = length_encoded v in
    let room : leb (0 + (2 + ((length v.key + 7) / 8 + (length v.value + 7) / 8))) (length ws) ≡ true = le-leb _ (length ws) (omega arith) in
    rw (le-leb 1 (length v.key) p.one, le-leb (length v.key) 255 p.key_long, le-leb (length v.value) 1024 p.value_long, room)
    (ap (take (length (encoded v))) (take_at (encoded v) (drop (0 + length (encoded v)) ws) (length (encoded v)) refl) ∙ take_all (length (encoded v)) (encoded v) (omega arith))

-- what stands there
pub record Staged (v : Version) (ws : List ℕ) : Type 0 where
  pub key : key_at ws 0 ≡ v.key
  pub moment : moment_at ws 0 ≡ v.moment
  pub whole : version_of ws 0 ≡ v

staged_there : (ws : List ℕ) (v : Version) → length ws ≡ 162 → fits v ≡ true → Staged v (appended ws 0 v)
unfolding version_at version_of
staged_there ws v l f =
    let e = stage_reads ws v l f in
    let a = appended ws 0 v in
    let short : take 1024 (value_at (appended ws 0 v) 0) ≡ v.value = ap (λ x. take 1024 x.value) e ∙ take_all 1024 v.value (fits_parts v f).value_long in
    record {
      key = ap (λ x. x.key) e;
      moment = ap (λ x. x.moment) e;
      whole = λ i. version (e i).key (e i).moment (e i).gone (short i);
    }

pub stage_is : (v : Version) (m : List ℕ) → length m ≡ memory_words → fits v ≡ true → Staged v (stage_region (staged v m))
unfolding staged
stage_is v m l f =
    subst (Staged v) (sym (region_same 147520 162 (λ x. appended x 0 v) m (omega arith) ((append_keeps (stage_region m) 0 v).0 ∙ length_region 147520 162 m (omega arith))))
    (staged_there (stage_region m) v (length_region 147520 162 m (omega arith)) f)
