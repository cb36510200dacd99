-- Two tables merged are the table of both.
use Rattle.std.proofs.Common.{◌≡◌, ℕ, Bool, true, false, List, [], ◌∷◌, sym, refl, ap, ◌∙◌}
use Rattle.value.specs.Versions.{pick, each, before, Version, latest}
use Rattle.value.specs.Sorted.{insert_old, insert_new, sort, weave, merge, all_of, lookup_runs, merge_runs, MergeRight, PushRight, RunsRight}
use Rattle.value.proofs.TestLaws.{clash}
use Rattle.value.proofs.KeyLaws.{before_trans, le_le}
use Rattle.value.proofs.LatestLaws.{later_first}
use Rattle.value.proofs.SortLaws.{lookup_sort}

weave_insert : (x v : Version) (f : List Version → List Version) → ((zs : List Version) → f (insert_old v zs) ≡ insert_old v (f zs)) →
    (ys : List Version) → weave x f (insert_old v ys) ≡ insert_old v (weave x f ys)
unfolding weave insert_old
weave_insert x v f fi [] = go (before v.key x.key)
  where
    go : (b : Bool) → pick b (v ∷ x ∷ f []) (x ∷ f (v ∷ [])) ≡ pick b (v ∷ x ∷ f []) (x ∷ insert_old v (f []))
    go true = refl
    go false = ap (λ l. x ∷ l) (fi [])
weave_insert x v f fi (y ∷ ys) =
    go (before v.key y.key) (before y.key x.key) (before v.key x.key) refl refl refl (weave_insert x v f fi ys)
  where
    go : (b c d : Bool) → before v.key y.key ≡ b → before y.key x.key ≡ c → before v.key x.key ≡ d →
        weave x f (insert_old v ys) ≡ insert_old v (weave x f ys) → weave x f (insert_old v (y ∷ ys)) ≡ insert_old v (weave x f (y ∷ ys))
    go true true true p q r ih = simp (p, q, r)
    go true true false p q r ih = clash (before v.key x.key) (before_trans v.key y.key x.key p q) r
    go true false true p q r ih = simp (p, q, r)
    go true false false p q r ih = simp (p, q, r) (ap (λ l. x ∷ l) (simp p at (fi (y ∷ ys))))
    go false true d p q r ih = simp (p, q) (ap (λ l. y ∷ l) ih)
    go false false true p q r ih = clash (before v.key x.key) r (le_le x.key y.key v.key q p)
    go false false false p q r ih = simp (p, q, r) (ap (λ l. x ∷ l) (simp p at (fi (y ∷ ys))))

pub merge_insert : (xs : List Version) (v : Version) (ys : List Version) → merge xs (insert_old v ys) ≡ insert_old v (merge xs ys)
unfolding merge
merge_insert [] v ys = refl
merge_insert (x ∷ xs) v ys = weave_insert x v (λ zs. merge xs zs) (λ zs. merge_insert xs v zs) ys

pub merge_nil : (xs : List Version) → merge xs [] ≡ xs
unfolding merge weave
merge_nil [] = refl
merge_nil (x ∷ xs) = ap (λ l. x ∷ l) (merge_nil xs)

pub merge_right : MergeRight
unfolding sort
merge_right [] us = merge_nil (sort us)
merge_right (v ∷ vs) us = merge_insert (sort us) v (sort vs) ∙ ap (insert_old v) (merge_right vs us)

weave_one : (v : Version) (us : List Version) → weave v (λ zs. zs) us ≡ insert_new v us
unfolding weave insert_new
weave_one v [] = refl
weave_one v (u ∷ us) = rw (weave_one v us) refl

pub push_right : PushRight
unfolding sort insert_old merge
push_right vs v = sym (merge_right vs (v ∷ [])) ∙ weave_one v (sort vs)

lookup_all : (rs : List (List Version)) (k : List ℕ) (s : ℕ) → lookup_runs (each sort rs) k s ≡ latest (all_of rs) k s
unfolding lookup_runs all_of each latest
lookup_all [] k s = refl
lookup_all (r ∷ rs) k s = rw (lookup_sort r k s, lookup_all rs k s) (sym (later_first (all_of rs) r k s))

merge_all : (rs : List (List Version)) → merge_runs (each sort rs) ≡ sort (all_of rs)
unfolding merge_runs all_of each sort
merge_all [] = refl
merge_all (r ∷ rs) = rw (merge_all rs) (merge_right (all_of rs) r)

pub runs_right : RunsRight
runs_right rs = (lookup_all rs, merge_all rs)
