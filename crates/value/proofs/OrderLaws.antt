-- The library's order of byte rows is the order of keys; and versions in the order of a table.
use Rattle.std.proofs.Common.{◌≡◌, ℕ, Bool, nat_lt, true, false, List, Ordering, Less, Equal, Greater, sym, refl, ◌∙◌, arith}
use Rattle.std.proofs.lemmas.Bool.Decides.{nat_tests}
use Rattle.std.proofs.lemmas.Cmp.{same_from_slice_cmp}
use Rattle.std.specs.Ordering.{is_lt, is_eq, nat_cmp, ordering_then}
use Rattle.std.specs.Cmp.Lexicographic.{slice_cmp}
use Rattle.value.specs.Versions.{pick, same, before, Version}
use Rattle.value.specs.Order.{OrderSays, version_order}
use Rattle.value.proofs.KeyLaws.{same_eq, same_from, before_irrefl, before_not, before_apart', Order, before_it, same_as, behind_it, order}

abbrev pub ByBytes : List ℕ → List ℕ → Ordering → Type 0
ByBytes xs ys o = o ≡ slice_cmp nat_cmp xs ys

lex_before : (xs ys : List ℕ) (o : Ordering) → ByBytes xs ys o → is_lt o ≡ before xs ys
unfolding before
lex_before = same_from_slice_cmp nat_cmp is_lt before refl (λ _ _. refl) (λ _ _. refl) (λ x y xs ys o h. grind (arith, nat_tests))

lex_same : (xs ys : List ℕ) (o : Ordering) → ByBytes xs ys o → is_eq o ≡ same xs ys
unfolding same
lex_same = same_from_slice_cmp nat_cmp is_eq same refl (λ _ _. refl) (λ _ _. refl) (λ x y xs ys o h. grind (arith, nat_tests))

pub order_said : (xs ys : List ℕ) (o : Ordering) → ByBytes xs ys o → OrderSays xs ys o
unfolding OrderSays
order_said xs ys o h = go o (lex_before xs ys o h) (lex_same xs ys o h)
  where
    go : (o : Ordering) → is_lt o ≡ before xs ys → is_eq o ≡ same xs ys → o ≡ pick (before xs ys) Less (pick (same xs ys) Equal Greater)
    go Less p q = simp (sym p)
    go Equal p q = simp (sym p, sym q)
    go Greater p q = simp (sym p, sym q)

-- what an answer says of two keys
pub before_said : (a b : List ℕ) → OrderSays a b Less → before a b ≡ true
unfolding OrderSays
before_said a b e = go (before a b) (same a b) e
  where
    go : (x y : Bool) → Less ≡ pick x Less (pick y Equal Greater) → x ≡ true
    go true y e = refl
    go false true e = cc
    go false false e = cc

pub same_said : (a b : List ℕ) → OrderSays a b Equal → a ≡ b
unfolding OrderSays
same_said a b e = same_eq a b (go (before a b) (same a b) e)
  where
    go : (x y : Bool) → Equal ≡ pick x Less (pick y Equal Greater) → y ≡ true
    go true y e = cc
    go false true e = refl
    go false false e = cc

pub behind_said : (a b : List ℕ) → OrderSays a b Greater → before b a ≡ true
unfolding OrderSays
behind_said a b e = go (order a b)
  where
    go : Order a b → before b a ≡ true
    go (before_it p q r) = let f : Greater ≡ Less = simp p at e in cc
    go (same_as _ p q r) = let f : Greater ≡ Equal = simp (p, r) at e in cc
    go (behind_it p q r) = q

-- two counts
pub by_moment : (a b : ℕ) → nat_cmp a b ≡ pick (nat_lt a b) Less (pick (nat_lt b a) Greater Equal)
by_moment a b = grind (arith, nat_tests)

-- two versions: their keys decide, and of one key their moments
said_of : (v u : Version) (o : Ordering) → OrderSays v.key u.key o → ordering_then o (nat_cmp u.moment v.moment) ≡ version_order v u
unfolding version_order
said_of v u Less e = rw (before_said v.key u.key e) refl
said_of v u Greater e =
    let p = behind_said v.key u.key e in
    rw (before_not u.key v.key p, before_apart' u.key v.key p, p) refl
said_of v u Equal e =
    let k = same_said v.key u.key e in
    let p : before v.key u.key ≡ false = (λ i. before (k i) u.key) ∙ before_irrefl u.key in
    let q : before u.key v.key ≡ false = (λ i. before u.key (k i)) ∙ before_irrefl u.key in
    rw (p, same_from v.key u.key k, q, same_from u.key v.key (sym k)) (by_moment u.moment v.moment)

pub versions_said : (v u : Version) (ks js : List ℕ) (o : Ordering) → ks ≡ v.key → js ≡ u.key → OrderSays ks js o → ordering_then o (nat_cmp u.moment v.moment) ≡ version_order v u
unfolding OrderSays
versions_said v u ks js o e f h = said_of v u o (h ∙ (λ i. pick (before (e i) (f i)) Less (pick (same (e i) (f i)) Equal Greater)))
