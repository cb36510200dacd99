-- The search over blocks ends at the block that decides.
use Rattle.std.proofs.Common.{◌≡◌, ℕ, zero, suc, ◌+◌, ◌-◌, ◌<◌, ◌≤◌, Bool, true, false, ◌&&◌, ltb, ◌⊎◌, List, [], ◌∷◌, ◌++◌, length, get_or, take, drop, sym, refl, ap, ◌∙◌, subst, inl, inr, append_assoc, append-nil, arith}
use Rattle.std.proofs.lemmas.List.{length-drop}
use Rattle.value.specs.Versions.{every, same, before, Version}
use Rattle.value.specs.Sorted.{comes_first, in_order, lookup}
use Rattle.value.proofs.TestLaws.{clash, and_left_of, and_right_of, or_cases}
use Rattle.value.proofs.KeyLaws.{same_eq, before_trans}
use Rattle.table.specs.Blocks.{no_bound, last_one, not_ahead}
use Rattle.table.specs.Sizes.{joined, SomeIn}
use Rattle.table.specs.Search.{head_before, HeadsRise, ahead_first, ahead_at, Between, middle, narrowed, SearchNarrows, SearchEnds}
use Rattle.table.proofs.BlockLaws.{order_back, block_decides, none_decides, ahead_falls}

joined_append : (xs ys : List (List Version)) → joined (xs ++ ys) ≡ joined xs ++ joined ys
unfolding joined
joined_append [] ys = refl
joined_append (x ∷ xs) ys = ap (λ l. x ++ l) (joined_append xs ys) ∙ sym (append_assoc x (joined xs) (joined ys))

-- the blocks before a place, the block there, and those behind
pub split_at : (bs : List (List Version)) (i : ℕ) → i < length bs → bs ≡ take i bs ++ get_or bs i [] ∷ drop (suc i) bs
split_at [] i h = absurd (omega arith)
split_at (b ∷ bs) zero h = refl
split_at (b ∷ bs) (suc i) h = ap (λ l. b ∷ l) (split_at bs i (omega arith))

pub some_at : (bs : List (List Version)) (i : ℕ) → SomeIn bs → i < length bs → 0 < length (get_or bs i [])
some_at [] i s h = absurd (omega arith)
some_at (b ∷ bs) zero s h = s.0
some_at (b ∷ bs) (suc i) s h = some_at bs i s.1 (omega arith)

pub joined_split : (bs : List (List Version)) (i : ℕ) → i < length bs → joined bs ≡ joined (take i bs) ++ get_or bs i [] ++ joined (drop (suc i) bs)
unfolding joined
joined_split bs i h = ap joined (split_at bs i h) ∙ joined_append (take i bs) (get_or bs i [] ∷ drop (suc i) bs) ∙ sym (append_assoc (joined (take i bs)) (get_or bs i []) (joined (drop (suc i) bs)))

take_suc_joined : (bs : List (List Version)) (i : ℕ) → i < length bs → joined (take (suc i) bs) ≡ joined (take i bs) ++ get_or bs i []
unfolding joined
take_suc_joined [] i h = absurd (omega arith)
take_suc_joined (b ∷ bs) zero h = append-nil b
take_suc_joined (b ∷ bs) (suc i) h = ap (λ l. b ++ l) (take_suc_joined bs i (omega arith)) ∙ sym (append_assoc b (joined (take i bs)) (get_or bs i []))

-- one block back
first_falls : (k : List ℕ) (s : ℕ) (us vb wb ws : List Version) → in_order (us ++ vb ++ (wb ++ ws)) ≡ true → 0 < length vb → 0 < length wb → s ≤ no_bound →
    ahead_first k s (last_one [] (us ++ vb)) wb ≡ true → ahead_first k s (last_one [] us) vb ≡ true
unfolding ahead_first
first_falls k s us [] wb ws o h g l a = absurd (omega arith)
first_falls k s us (v ∷ vs) [] ws o h g l a = absurd (omega arith)
first_falls k s us (v ∷ vs) (w ∷ wb) ws o h g l a = ahead_falls us v vs w (wb ++ ws) k s o l a

ahead_back : (k : List ℕ) (s : ℕ) (bs : List (List Version)) (i : ℕ) → in_order (joined bs) ≡ true → SomeIn bs → s ≤ no_bound → suc i < length bs →
    ahead_at k s bs (suc i) ≡ true → ahead_at k s bs i ≡ true
unfolding ahead_at
ahead_back k s bs i o sm l h a =
    let e = take_suc_joined bs i (omega arith) in
    let q : joined bs ≡ joined (take i bs) ++ get_or bs i [] ++ (get_or bs (suc i) [] ++ joined (drop (suc (suc i)) bs)) =
    joined_split bs (suc i) h ∙ append_assoc (joined (take (suc i) bs)) (get_or bs (suc i) []) (joined (drop (suc (suc i)) bs))
    ∙ ap (λ x. x ++ (get_or bs (suc i) [] ++ joined (drop (suc (suc i)) bs))) e in
    first_falls k s (joined (take i bs)) (get_or bs i []) (get_or bs (suc i) []) (joined (drop (suc (suc i)) bs)) (sym (ap in_order q) ∙ o)
    (some_at bs i sm (omega arith)) (some_at bs (suc i) sm h) l (sym (ap (λ x. ahead_first k s (last_one [] x) (get_or bs (suc i) [])) e) ∙ a)

ahead_all : (k : List ℕ) (s : ℕ) (bs : List (List Version)) (i d : ℕ) → in_order (joined bs) ≡ true → SomeIn bs → s ≤ no_bound → i + d < length bs →
    ahead_at k s bs (i + d) ≡ true → ahead_at k s bs i ≡ true
ahead_all k s bs i zero o sm l h a = let z : i + 0 ≡ i = omega arith in rw z at a
ahead_all k s bs i (suc d) o sm l h a =
    let z : i + suc d ≡ suc (i + d) = omega arith in
    ahead_all k s bs i d o sm l (omega arith) (ahead_back k s bs (i + d) o sm l (omega arith) (rw z at a))

pub search_narrows : SearchNarrows
search_narrows k s bs f o sm l lt b = (omega (arith, b.within), go (ahead_at k s bs m) refl)
  where
    m : ℕ
    m = middle f.low f.high

    go : (c : Bool) → ahead_at k s bs m ≡ c → Between k s bs (narrowed f c).low (narrowed f c).high
    go true e = record {
      ordered = omega arith;
      within = b.within;
      before = λ i h. let z : i + (m - i) ≡ m = omega arith in ahead_all k s bs i (m - i) o sm l (omega (arith, b.within)) (rw z e);
      behind = b.behind;
    }
    go false e = record {
      ordered = omega arith;
      within = omega (arith, b.within);
      before = b.before;
      behind = λ i h g. not_later i h g (ahead_at k s bs i) refl;
    }
      where
        not_later : (i : ℕ) → m ≤ i → i < length bs → (c : Bool) → ahead_at k s bs i ≡ c → ahead_at k s bs i ≡ false
        not_later i h g false q = q
        not_later i h g true q = let z : m + (i - m) ≡ i = omega arith in clash (ahead_at k s bs m) (ahead_all k s bs m (i - m) o sm l (omega arith) (rw z q)) e

-- behind the last block there is nothing; before it, the next block is not ahead
rest_not_ahead : (k : List ℕ) (s : ℕ) (p : List Version) (bs : List (List Version)) → SomeIn bs → (0 < length bs → ahead_first k s p (get_or bs 0 []) ≡ false) → not_ahead k s p (joined bs)
unfolding not_ahead joined ahead_first
rest_not_ahead k s p [] sm h = refl
rest_not_ahead k s p ([] ∷ bs) sm h = absurd (omega (arith, sm.0))
rest_not_ahead k s p ((w ∷ wb) ∷ bs) sm h = h (omega arith)

some_drop : (bs : List (List Version)) (i : ℕ) → SomeIn bs → SomeIn (drop i bs)
some_drop bs zero s = s
some_drop [] (suc i) s = tt
some_drop (b ∷ bs) (suc i) s = some_drop bs i s.1

getD_drop_at : (bs : List (List Version)) (i : ℕ) → get_or (drop i bs) 0 [] ≡ get_or bs i []
getD_drop_at bs zero = refl
getD_drop_at [] (suc i) = refl
getD_drop_at (b ∷ bs) (suc i) = getD_drop_at bs i

block_found : (k : List ℕ) (s : ℕ) (us vb ws : List Version) → in_order (us ++ vb ++ ws) ≡ true → s ≤ no_bound → ahead_first k s (last_one [] us) vb ≡ true → not_ahead k s (last_one [] (us ++ vb)) ws →
    lookup (us ++ vb ++ ws) k s ≡ lookup vb k s
unfolding ahead_first
block_found k s us [] ws o l a n = clash true refl (sym a)
block_found k s us (v ∷ vs) ws o l a n = block_decides us v vs ws k s o l a n

pub search_ends : SearchEnds
unfolding ahead_at joined last_one
search_ends k s bs n o sm l b = (none, some)
  where
    none : n ≡ 0 → lookup (joined bs) k s ≡ []
    none z = none_decides (joined bs) k s o l (rest_not_ahead k s [] bs sm (λ h. b.behind 0 (omega arith) h))

    some : (m : ℕ) → n ≡ suc m → lookup (joined bs) k s ≡ lookup (get_or bs m []) k s
    some m e =
        let h : m < length bs = omega (arith, b.within) in
        let q = joined_split bs m h in
        let rest = rest_not_ahead k s (last_one [] (joined (take (suc m) bs))) (drop (suc m) bs) (some_drop bs (suc m) sm)
        (λ g. ap (ahead_first k s (last_one [] (joined (take (suc m) bs)))) (getD_drop_at bs (suc m)) ∙ b.behind (suc m) (omega arith) (omega (arith, length-drop (suc m) bs))) in
        ap (λ x. lookup x k s) q
        ∙ block_found k s (joined (take m bs)) (get_or bs m []) (joined (drop (suc m) bs)) (sym (ap in_order q) ∙ o) l (b.before m (omega arith))
        (subst (λ x. not_ahead k s (last_one [] x) (joined (drop (suc m) bs))) (take_suc_joined bs m h) rest)

-- FROM THE BACK
every_behind : (f : Version → Bool) (xs : List Version) (w : Version) (ws : List Version) → every f (xs ++ w ∷ ws) ≡ true → (f w && every f ws) ≡ true
unfolding every
every_behind f [] w ws h = h
every_behind f (x ∷ xs) w ws h = every_behind f xs w ws (and_right_of (f x) (every f (xs ++ w ∷ ws)) h)

first_before : (k : List ℕ) (v w : Version) → comes_first v w ≡ true → before w.key k ≡ true → before v.key k ≡ true
first_before k v w c b = go (or_cases (before v.key w.key) _ c)
  where
    go : (before v.key w.key ≡ true) ⊎ ((same v.key w.key && ltb w.moment v.moment) ≡ true) → before v.key k ≡ true
    go (inl x) = before_trans v.key w.key k x b
    go (inr x) = ap (λ j. before j k) (same_eq v.key w.key (and_left_of (same v.key w.key) (ltb w.moment v.moment) x)) ∙ b

-- of a version and one that stands behind it
head_first : (v : Version) (vs : List Version) (w : Version) (ws : List Version) → in_order (v ∷ (vs ++ (w ∷ ws))) ≡ true → comes_first v w ≡ true
unfolding in_order
head_first v vs w ws o = at vs (and_left_of (every (comes_first v) (vs ++ w ∷ ws)) (in_order (vs ++ w ∷ ws)) o)
  where
    at : (us : List Version) → every (comes_first v) (us ++ w ∷ ws) ≡ true → comes_first v w ≡ true
    at us h = and_left_of (comes_first v w) (every (comes_first v) ws) (behind_all us h)
      where
        behind_all : (xs : List Version) → every (comes_first v) (xs ++ w ∷ ws) ≡ true → (comes_first v w && every (comes_first v) ws) ≡ true
        behind_all xs g = every_behind (comes_first v) xs w ws g

head_falls : (k : List ℕ) (us vb wb ws : List Version) → in_order (us ++ vb ++ (wb ++ ws)) ≡ true → 0 < length vb → 0 < length wb → head_before k wb ≡ true → head_before k vb ≡ true
unfolding head_before
head_falls k us [] wb ws o h g a = absurd (omega arith)
head_falls k us (v ∷ vs) [] ws o h g a = absurd (omega arith)
head_falls k us (v ∷ vs) (w ∷ wb) ws o h g a =
    let o₁ : in_order (us ++ (v ∷ (vs ++ (w ∷ (wb ++ ws))))) ≡ true = rw append_assoc at o in
    first_before k v w (head_first v vs w (wb ++ ws) (order_back us (v ∷ (vs ++ (w ∷ (wb ++ ws)))) o₁)) a

head_back : (k : List ℕ) (bs : List (List Version)) (i : ℕ) → in_order (joined bs) ≡ true → SomeIn bs → suc i < length bs → head_before k (get_or bs (suc i) []) ≡ true → head_before k (get_or bs i []) ≡ true
head_back k bs i o sm h a =
    let e = take_suc_joined bs i (omega arith) in
    let q : joined bs ≡ joined (take i bs) ++ get_or bs i [] ++ (get_or bs (suc i) [] ++ joined (drop (suc (suc i)) bs)) =
    joined_split bs (suc i) h ∙ append_assoc (joined (take (suc i) bs)) (get_or bs (suc i) []) (joined (drop (suc (suc i)) bs))
    ∙ ap (λ x. x ++ (get_or bs (suc i) [] ++ joined (drop (suc (suc i)) bs))) e in
    head_falls k (joined (take i bs)) (get_or bs i []) (get_or bs (suc i) []) (joined (drop (suc (suc i)) bs)) (sym (ap in_order q) ∙ o) (some_at bs i sm (omega arith)) (some_at bs (suc i) sm h) a

head_all : (k : List ℕ) (bs : List (List Version)) (i d : ℕ) → in_order (joined bs) ≡ true → SomeIn bs → i + d < length bs → head_before k (get_or bs (i + d) []) ≡ true → head_before k (get_or bs i []) ≡ true
head_all k bs i zero o sm h a = let z : i + 0 ≡ i = omega arith in rw z at a
head_all k bs i (suc d) o sm h a =
    let z : i + suc d ≡ suc (i + d) = omega arith in
    head_all k bs i d o sm (omega arith) (head_back k bs (i + d) o sm (omega arith) (rw z at a))

pub heads_rise : HeadsRise
heads_rise k bs i j o sm l h a = let z : i + (j - i) ≡ j = omega arith in head_all k bs i (j - i) o sm (omega arith) (rw z a)
