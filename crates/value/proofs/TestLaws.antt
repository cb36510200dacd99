-- Tests: a Bool that's true or false, pick, or, and any and every over lists.
use Rattle.std.proofs.Common.{◌≡◌, Bool, true, false, ◌&&◌, ◌⊎◌, List, [], ◌∷◌, ◌++◌, sym, refl, ap, inl, inr}
use Rattle.value.specs.Versions.{pick, or, every, any, those}
use borrow.Author.Tests.{both_ways}

pub split : (b : Bool) → (b ≡ true) ⊎ (b ≡ false)
split true = inl refl
split false = inr refl

pub clash : {A : Type 0} (b : Bool) → b ≡ true → b ≡ false → A
clash b p q = absurd (both_ways b q p)

pub or_true_right : (a : Bool) → or a true ≡ true
or_true_right true = refl
or_true_right false = refl

pub and_false_right : (a : Bool) → (a && false) ≡ false
and_false_right true = refl
and_false_right false = refl

pub and_left_of : (a b : Bool) → (a && b) ≡ true → a ≡ true
and_left_of true b e = refl
and_left_of false b e = e

pub and_right_of : (a b : Bool) → (a && b) ≡ true → b ≡ true
and_right_of true b e = e
and_right_of false b e = absurd (both_ways false refl e)

pub or_left_no : (a b : Bool) → or a b ≡ false → a ≡ false
or_left_no true b e = e
or_left_no false b e = refl

pub or_right_no : (a b : Bool) → or a b ≡ false → b ≡ false
or_right_no true b e = clash true refl e
or_right_no false b e = e

pub any_append : {A : Type 0} (f : A → Bool) (xs ys : List A) → any f xs ≡ true → any f (xs ++ ys) ≡ true
unfolding any
any_append f [] ys h = clash true refl (sym h)
any_append f (x ∷ xs) ys h = go (f x) h (any_append f xs ys)
  where
    go : (b : Bool) → or b (any f xs) ≡ true → (any f xs ≡ true → any f (xs ++ ys) ≡ true) → or b (any f (xs ++ ys)) ≡ true
    go true h ih = refl
    go false h ih = ih h

pub or_cases : (a b : Bool) → or a b ≡ true → (a ≡ true) ⊎ (b ≡ true)
or_cases true b e = inl refl
or_cases false b e = inr e

pub any_mono : {A : Type 0} (f g : A → Bool) → ((x : A) → f x ≡ true → g x ≡ true) → (xs : List A) → any f xs ≡ true → any g xs ≡ true
unfolding any
any_mono f g w [] h = h
any_mono f g w (x ∷ xs) h = go (or_cases (f x) (any f xs) h) (any_mono f g w xs)
  where
    go : (f x ≡ true) ⊎ (any f xs ≡ true) → (any f xs ≡ true → any g xs ≡ true) → or (g x) (any g xs) ≡ true
    go (inl e) ih = rw (w x e) refl
    go (inr e) ih = rw (ih e) (or_true_right (g x))

pub every_not_any : {A : Type 0} (f g : A → Bool) → ((x : A) → f x ≡ true → g x ≡ false) → (xs : List A) → every f xs ≡ true → any g xs ≡ false
unfolding any every
every_not_any f g w [] h = refl
every_not_any f g w (x ∷ xs) h =
    rw (w x (and_left_of (f x) (every f xs) h)) (every_not_any f g w xs (and_right_of (f x) (every f xs) h))

pub every_mono : {A : Type 0} (f g : A → Bool) → ((x : A) → f x ≡ true → g x ≡ true) → (xs : List A) → every f xs ≡ true → every g xs ≡ true
unfolding every
every_mono f g w [] h = refl
every_mono f g w (x ∷ xs) h =
    rw (w x (and_left_of (f x) (every f xs) h)) (every_mono f g w xs (and_right_of (f x) (every f xs) h))

pub every_append : {A : Type 0} (f : A → Bool) (xs ys : List A) → every f xs ≡ true → every f ys ≡ true → every f (xs ++ ys) ≡ true
unfolding every
every_append f [] ys h k = k
every_append f (x ∷ xs) ys h k =
    rw (and_left_of (f x) (every f xs) h) (every_append f xs ys (and_right_of (f x) (every f xs) h) k)

pub those_none : {A : Type 0} (f g : A → Bool) → ((x : A) → f x ≡ true → g x ≡ false) → (xs : List A) → every f xs ≡ true → those g xs ≡ []
unfolding those every
those_none f g w [] h = refl
those_none f g w (x ∷ xs) h =
    rw (w x (and_left_of (f x) (every f xs) h)) (those_none f g w xs (and_right_of (f x) (every f xs) h))

pub those_all : {A : Type 0} (f g : A → Bool) → ((x : A) → f x ≡ true → g x ≡ true) → (xs : List A) → every f xs ≡ true → those g xs ≡ xs
unfolding those every
those_all f g w [] h = refl
those_all f g w (x ∷ xs) h =
    rw (w x (and_left_of (f x) (every f xs) h)) (ap (λ l. x ∷ l) (those_all f g w xs (and_right_of (f x) (every f xs) h)))

pub those_append : {A : Type 0} (f : A → Bool) (xs ys : List A) → those f (xs ++ ys) ≡ those f xs ++ those f ys
unfolding those
those_append f [] ys = refl
those_append f (x ∷ xs) ys = go (f x) (those_append f xs ys)
  where
    go : (b : Bool) → those f (xs ++ ys) ≡ those f xs ++ those f ys →
        pick b (x ∷ those f (xs ++ ys)) (those f (xs ++ ys)) ≡ pick b (x ∷ those f xs) (those f xs) ++ those f ys
    go true ih = ap (λ l. x ∷ l) ih
    go false ih = ih

pub every_those : {A : Type 0} (f g : A → Bool) (xs : List A) → every f xs ≡ true → every f (those g xs) ≡ true
unfolding those every
every_those f g [] h = refl
every_those f g (x ∷ xs) h = go (g x) (every_those f g xs (and_right_of (f x) (every f xs) h))
  where
    go : (b : Bool) → every f (those g xs) ≡ true → every f (pick b (x ∷ those g xs) (those g xs)) ≡ true
    go true ih = rw (and_left_of (f x) (every f xs) h) ih
    go false ih = ih

pub pick_same : {A : Type 0} (b : Bool) (x : A) → x ≡ pick b x x
pick_same true x = refl
pick_same false x = refl
