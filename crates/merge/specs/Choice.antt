-- Two runs read side by side, the first of them later as a whole, by the keys at their heads.
--   lent f o         what is lent in an Option
--   chosen           which run gives the next version
--   by_choice        one of three, for the later run, the earlier one and the end
--   head_key         the key at the head of a run, None at its end
--   merged_by n      two runs read by that choice, in n steps
use Rattle.std.specs.Prelude.{◌≡◌, ℕ, zero, suc, ◌+◌, ◌≤◌, List, [], ◌∷◌, ◌++◌, length, take, drop, Some, None, Option}
use Rattle.value.specs.Versions.{pick, before, Version}
use Rattle.value.specs.Sorted.{merge, sort}
use Rattle.merge.specs.declared.choice.Next.{Next}
use Rattle.merge.specs.declared.choice.Next.TheVariants.{Later, Earlier, End}

abbrev pub lent : {A B : Type 0} → (A → B) → Option A → Option B
lent f None = None
lent f (Some x) = Some (f x)

abbrev pub chosen : Option (List ℕ) → Option (List ℕ) → Next
chosen None None = End
chosen (Some x) None = Later
chosen None (Some y) = Earlier
chosen (Some x) (Some y) = pick (before y x) Earlier Later

abbrev pub head_key : List Version → Option (List ℕ)
head_key [] = None
head_key (v ∷ vs) = Some v.key

abbrev pub by_choice : {A : Type 0} → Next → A → A → A → A
by_choice Later a b c = a
by_choice Earlier a b c = b
by_choice End a b c = c

-- the head of the chosen run comes out, and its rest goes on
unfoldable pub merged_by : ℕ → List Version → List Version → List Version
merged_by zero xs ys = []
merged_by (suc n) xs ys =
    by_choice (chosen (head_key xs) (head_key ys)) (take 1 xs ++ merged_by n (drop 1 xs) ys) (take 1 ys ++ merged_by n xs (drop 1 ys)) []

-- THE STATEMENT. The chosen head is the head of the two runs merged, so that reading by that choice, in as many steps as there are versions, merges
-- them; and of two sorted views, the first later as a whole, it makes the sorted view of all.
pub record ChoiceMerges : Type 0 where
  pub later : (x y : Version) (xs ys : List Version) → chosen (Some x.key) (Some y.key) ≡ Later → merge (x ∷ xs) (y ∷ ys) ≡ x ∷ merge xs (y ∷ ys)
  pub earlier : (x y : Version) (xs ys : List Version) → chosen (Some x.key) (Some y.key) ≡ Earlier → merge (x ∷ xs) (y ∷ ys) ≡ y ∷ merge (x ∷ xs) ys
  pub later_alone : (xs : List Version) → merge xs [] ≡ xs
  pub earlier_alone : (ys : List Version) → merge [] ys ≡ ys
  pub merges : (n : ℕ) (xs ys : List Version) → length xs + length ys ≤ n → merged_by n xs ys ≡ merge xs ys
  pub sorts : (n : ℕ) (us vs : List Version) → length us + length vs ≤ n → merged_by n (sort us) (sort vs) ≡ sort (vs ++ us)
