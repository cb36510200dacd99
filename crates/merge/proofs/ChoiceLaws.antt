-- The choice between two runs, repeated, merges them.
use Rattle.std.proofs.Common.{◌≡◌, ℕ, zero, suc, ◌+◌, ◌≤◌, Bool, true, false, List, [], ◌∷◌, length, Bor, Option, Some, sym, refl, ap, ◌∙◌, arith}
use Rattle.value.specs.Versions.{pick, before, Version}
use Rattle.value.specs.Order.{OrderSays}
use Rattle.value.specs.Sorted.{weave, merge, sort}
use Rattle.std.specs.declared.cmp.Ordering.{Ordering}
use Rattle.std.specs.declared.cmp.Ordering.TheVariants.{Less, Equal, Greater}
use Rattle.std.specs.Ordering.{is_gt}
use Rattle.value.proofs.KeyLaws.{before_irrefl, before_not}
use Rattle.value.proofs.OrderLaws.{before_said, same_said, behind_said}
use Rattle.value.proofs.SortLaws.{sort_weighs}
use Rattle.value.proofs.MergeLaws.{merge_nil, merge_right}
use Rattle.merge.specs.Choice.{lent, chosen, merged_by, ChoiceMerges}
use Rattle.merge.specs.declared.choice.Next.TheVariants.{Later, Earlier}

-- what the order of two keys chooses
behind_is : (x y : List ℕ) (o : Ordering) → OrderSays x y o → is_gt o ≡ before y x
behind_is x y Less e = sym (before_not x y (before_said x y e))
behind_is x y Equal e = sym (rw (same_said x y e) (before_irrefl y))
behind_is x y Greater e = sym (behind_said x y e)

pub earlier_by : (later earlier : Option (Bor (List ℕ))) (x y : Bor (List ℕ)) (o : Ordering) → later ≡ Some x → earlier ≡ Some y → OrderSays x.now y.now o → true ≡ is_gt o →
    Earlier ≡ chosen (lent (λ k. k.now) later) (lent (λ k. k.now) earlier)
earlier_by later earlier x y o e f h t = rw (e, f, ← behind_is x.now y.now o h, ← t) refl

pub later_by : (later earlier : Option (Bor (List ℕ))) (x y : Bor (List ℕ)) (o : Ordering) → later ≡ Some x → earlier ≡ Some y → OrderSays x.now y.now o → false ≡ is_gt o →
    Later ≡ chosen (lent (λ k. k.now) later) (lent (λ k. k.now) earlier)
later_by later earlier x y o e f h t = rw (e, f, ← behind_is x.now y.now o h, ← t) refl

-- two heads: the choice is a test of their keys
later_first : (x y : Version) → chosen (Some x.key) (Some y.key) ≡ Later → before y.key x.key ≡ false
later_first x y e = go (before y.key x.key) e
  where
    go : (b : Bool) → pick b Earlier Later ≡ Later → b ≡ false
    go true h = cc
    go false h = refl

earlier_first : (x y : Version) → chosen (Some x.key) (Some y.key) ≡ Earlier → before y.key x.key ≡ true
earlier_first x y e = go (before y.key x.key) e
  where
    go : (b : Bool) → pick b Earlier Later ≡ Earlier → b ≡ true
    go true h = refl
    go false h = cc

merge_later : (x y : Version) (xs ys : List Version) → before y.key x.key ≡ false → merge (x ∷ xs) (y ∷ ys) ≡ x ∷ merge xs (y ∷ ys)
unfolding merge weave
merge_later x y xs ys e = rw e refl

merge_earlier : (x y : Version) (xs ys : List Version) → before y.key x.key ≡ true → merge (x ∷ xs) (y ∷ ys) ≡ y ∷ merge (x ∷ xs) ys
unfolding merge weave
merge_earlier x y xs ys e = rw e refl

pub merged : (n : ℕ) (xs ys : List Version) → length xs + length ys ≤ n → merged_by n xs ys ≡ merge xs ys
unfolding merged_by merge
merged zero [] [] h = refl
merged zero [] (y ∷ ys) h = absurd (omega arith)
merged zero (x ∷ xs) ys h = absurd (omega arith)
merged (suc n) [] [] h = refl
merged (suc n) [] (y ∷ ys) h = ap (λ l. y ∷ l) (merged n [] ys (omega arith))
merged (suc n) (x ∷ xs) [] h = ap (λ l. x ∷ l) (merged n xs [] (omega arith) ∙ merge_nil xs) ∙ sym (merge_nil (x ∷ xs))
merged (suc n) (x ∷ xs) (y ∷ ys) h = go (before y.key x.key) refl (merged n xs (y ∷ ys) (omega arith)) (merged n (x ∷ xs) ys (omega arith))
  where
    go : (b : Bool) → before y.key x.key ≡ b → merged_by n xs (y ∷ ys) ≡ merge xs (y ∷ ys) → merged_by n (x ∷ xs) ys ≡ merge (x ∷ xs) ys →
        merged_by (suc n) (x ∷ xs) (y ∷ ys) ≡ merge (x ∷ xs) (y ∷ ys)
    go true e p q = rw e (ap (λ l. y ∷ l) q) ∙ sym (merge_earlier x y xs ys e)
    go false e p q = rw e (ap (λ l. x ∷ l) p) ∙ sym (merge_later x y xs ys e)

pub choice_merges : ChoiceMerges
unfolding merge
choice_merges = record {
  later = λ x y xs ys e. merge_later x y xs ys (later_first x y e);
  earlier = λ x y xs ys e. merge_earlier x y xs ys (earlier_first x y e);
  later_alone = λ xs. merge_nil xs;
  earlier_alone = λ ys. refl;
  merges = merged;
  sorts = λ n us vs h. merged n (sort us) (sort vs) (omega (arith, (sort_weighs us).1, (sort_weighs vs).1)) ∙ merge_right vs us;
}
