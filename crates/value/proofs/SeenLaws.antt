-- All that's seen: by keys in order, each once, and of each what's seen of it.
use Rattle.std.proofs.Common.{◌≡◌, ℕ, Bool, true, false, not, ◌&&◌, ltb, List, [], ◌∷◌, ◌++◌, sym, refl, ◌∙◌, append-nil}
use Rattle.value.specs.Versions.{pick, or, every, any, those, none_of, same, before, Version, latest, living, seen, insert_key, all_keys, seen_of}
use Rattle.value.specs.Answers.{ordered, RangeRight}
use Rattle.value.proofs.TestLaws.{and_left_of, and_right_of, or_left_no, or_right_no, every_mono, every_append, those_none, those_all, those_append}
use Rattle.value.proofs.KeyLaws.{same_sym, same_eq, before_trans, before_apart', Order, before_it, same_as, behind_it, order}
use Rattle.value.proofs.KeptLaws.{latest_skip}

-- the tests by name
abbrev pub keyed : List ℕ → Version → Bool
keyed k v = same v.key k

abbrev pub behind : List ℕ → Version → Bool
behind k v = before k v.key

-- keys in order, each once
unfoldable pub keys_rise : List (List ℕ) → Bool
keys_rise [] = true
keys_rise (k ∷ ks) = every (before k) ks && keys_rise ks

every_insert : (f : List ℕ → Bool) (k : List ℕ) (js : List (List ℕ)) → f k ≡ true → every f js ≡ true → every f (insert_key k js) ≡ true
unfolding every insert_key
every_insert f k [] e h = rw e refl
every_insert f k (j ∷ js) e h =
    go (same k j) (before k j) (and_left_of (f j) _ h) (every_insert f k js e (and_right_of (f j) _ h))
  where
    go : (a b : Bool) → f j ≡ true → every f (insert_key k js) ≡ true → every f (pick a (j ∷ js) (pick b (k ∷ j ∷ js) (j ∷ insert_key k js))) ≡ true
    go true b p ih = h
    go false true p ih = rw e h
    go false false p ih = rw p ih

insert_rises : (k : List ℕ) (js : List (List ℕ)) → keys_rise js ≡ true → keys_rise (insert_key k js) ≡ true
unfolding every insert_key keys_rise
insert_rises k [] h = refl
insert_rises k (j ∷ js) h = go (order k j) (insert_rises k js (and_right_of (every (before j) js) (keys_rise js) h))
  where
    go : Order k j → keys_rise (insert_key k js) ≡ true → keys_rise (pick (same k j) (j ∷ js) (pick (before k j) (k ∷ j ∷ js) (j ∷ insert_key k js))) ≡ true
    go (before_it p q r) ih =
        rw (r, p, p, every_mono (before j) (before k) (λ i e. before_trans k j i p e) js (and_left_of (every (before j) js) (keys_rise js) h)) h
    go (same_as e p q r) ih = rw r h
    go (behind_it p q r) ih = rw (r, p, every_insert (before j) k js q (and_left_of (every (before j) js) (keys_rise js) h)) ih

pub all_keys_rise : (vs : List Version) → keys_rise (all_keys vs) ≡ true
unfolding all_keys keys_rise
all_keys_rise [] = refl
all_keys_rise (v ∷ vs) = insert_rises v.key (all_keys vs) (all_keys_rise vs)

any_insert : (k j : List ℕ) (js : List (List ℕ)) → any (same k) (insert_key j js) ≡ or (same k j) (any (same k) js)
unfolding any insert_key
any_insert k j [] = refl
any_insert k j (i ∷ is) = go (same j i) refl (before j i) (any_insert k j is)
  where
    swap : (a b c : Bool) → or a (or b c) ≡ or b (or a c)
    swap true true c = refl
    swap true false c = refl
    swap false true c = refl
    swap false false c = refl

    twice : (a b : Bool) → or a b ≡ or a (or a b)
    twice true b = refl
    twice false b = refl

    go : (a : Bool) → same j i ≡ a → (b : Bool) → any (same k) (insert_key j is) ≡ or (same k j) (any (same k) is) →
        any (same k) (pick a (i ∷ is) (pick b (j ∷ i ∷ is) (i ∷ insert_key j is))) ≡ or (same k j) (or (same k i) (any (same k) is))
    go true p b ih = rw (same_eq j i p) (twice (same k i) (any (same k) is))
    go false p true ih = refl
    go false p false ih = rw ih (swap (same k i) (same k j) (any (same k) is))

-- what has no version isn't seen
pub latest_absent : (vs : List Version) (k : List ℕ) (s : ℕ) → any (same k) (all_keys vs) ≡ false → latest vs k s ≡ []
unfolding all_keys latest
latest_absent [] k s h = refl
latest_absent (v ∷ vs) k s h =
    let e : or (same k v.key) (any (same k) (all_keys vs)) ≡ false = sym (any_insert k v.key (all_keys vs)) ∙ h in
    latest_skip v vs k s (same_sym v.key k ∙ or_left_no (same k v.key) _ e) ∙ latest_absent vs k s (or_right_no (same k v.key) _ e)

-- at most one, of that key
abbrev pub One : List ℕ → List Version → Type 0
One k [] = Unit {0}
One k (v ∷ []) = same v.key k ≡ true
One k (v ∷ u ∷ vs) = ⊥

pub latest_one_of : (vs : List Version) (k : List ℕ) (s : ℕ) → One k (latest vs k s)
unfolding latest none_of
latest_one_of [] k s = tt
latest_one_of (v ∷ vs) k s = go (latest vs k s) (same v.key k) refl (ltb v.moment s) (latest_one_of vs k s)
  where
    go : (l : List Version) (a : Bool) → same v.key k ≡ a → (b : Bool) → One k l → One k (pick (none_of l) (pick (a && b) (v ∷ []) []) l)
    go [] true p true o = p
    go [] true p false o = tt
    go [] false p b o = tt
    go (x ∷ xs) a p b o = o

pub seen_one_of : (vs : List Version) (k : List ℕ) (s : ℕ) → One k (seen vs k s)
unfolding those
seen_one_of vs k s = go (latest vs k s) (latest_one_of vs k s)
  where
    go : (l : List Version) → One k l → One k (living l)
    go [] o = tt
    go (v ∷ []) o = now v.gone
      where
        now : (g : Bool) → One k (pick (not g) (v ∷ []) [])
        now true = tt
        now false = o
    go (v ∷ u ∷ vs) o = absurd o

one_keyed : (k : List ℕ) (l : List Version) → One k l → every (keyed k) l ≡ true
unfolding every
one_keyed k [] o = refl
one_keyed k (v ∷ []) o = rw o refl
one_keyed k (v ∷ u ∷ vs) o = absurd o

seen_of_behind : (vs : List Version) (s : ℕ) (k : List ℕ) (ks : List (List ℕ)) → every (before k) ks ≡ true → every (behind k) (seen_of vs s ks) ≡ true
unfolding every seen_of
seen_of_behind vs s k [] h = refl
seen_of_behind vs s k (j ∷ js) h =
    every_append (behind k) (seen vs j s) (seen_of vs s js)
    (every_mono (keyed j) (behind k) (λ v e. rw (same_eq v.key j e) (and_left_of (before k j) _ h)) (seen vs j s) (one_keyed j (seen vs j s) (seen_one_of vs j s)))
    (seen_of_behind vs s k js (and_right_of (before k j) _ h))

ordered_one : (k : List ℕ) (l us : List Version) → One k l → every (behind k) us ≡ true → ordered us ≡ true → ordered (l ++ us) ≡ true
unfolding ordered
ordered_one k [] us o b h = h
ordered_one k (v ∷ []) us o b h = rw (same_eq v.key k o, b) h
ordered_one k (v ∷ u ∷ vs) us o b h = absurd o

seen_of_ordered : (vs : List Version) (s : ℕ) (ks : List (List ℕ)) → keys_rise ks ≡ true → ordered (seen_of vs s ks) ≡ true
unfolding ordered seen_of keys_rise
seen_of_ordered vs s [] h = refl
seen_of_ordered vs s (k ∷ ks) h =
    ordered_one k (seen vs k s) (seen_of vs s ks) (seen_one_of vs k s) (seen_of_behind vs s k ks (and_left_of _ (keys_rise ks) h))
    (seen_of_ordered vs s ks (and_right_of (every (before k) ks) _ h))

seen_of_those : (vs : List Version) (s : ℕ) (k : List ℕ) (ks : List (List ℕ)) → keys_rise ks ≡ true →
    those (keyed k) (seen_of vs s ks) ≡ pick (any (same k) ks) (seen vs k s) []
unfolding those any seen_of keys_rise
seen_of_those vs s k [] h = refl
seen_of_those vs s k (j ∷ js) h =
    those_append (keyed k) (seen vs j s) (seen_of vs s js)
    ∙ go (same k j) refl (seen_of_those vs s k js (and_right_of (every (before j) js) _ h))
  where
    go : (a : Bool) → same k j ≡ a → those (keyed k) (seen_of vs s js) ≡ pick (any (same k) js) (seen vs k s) [] →
        those (keyed k) (seen vs j s) ++ those (keyed k) (seen_of vs s js) ≡ pick (or a (any (same k) js)) (seen vs k s) []
    go true p ih =
        rw (
          ← same_eq k j p,
          those_all (keyed k) (keyed k) (λ v e. e) (seen vs k s) (one_keyed k (seen vs k s) (seen_one_of vs k s)),
          those_none (behind k) (keyed k) (λ v e. before_apart' k v.key e) (seen_of vs s js)
              (seen_of_behind vs s k js (rw (← same_eq k j p) at (and_left_of (every (before j) js) (keys_rise js) h))),
        )
        (append-nil (seen vs k s))
    go false p ih =
        rw (those_none (keyed j) (keyed k) (λ v e. rw (same_eq v.key j e) (same_sym j k ∙ p)) (seen vs j s) (one_keyed j (seen vs j s) (seen_one_of vs j s))) ih

pub range_right : RangeRight
unfolding those
range_right vs s k = (
  seen_of_ordered vs s (all_keys vs) (all_keys_rise vs),
  seen_of_those vs s k (all_keys vs) (all_keys_rise vs) ∙ go (any (same k) (all_keys vs)) refl,
)
  where
    go : (a : Bool) → any (same k) (all_keys vs) ≡ a → pick a (seen vs k s) [] ≡ seen vs k s
    go true e = refl
    go false e = rw (latest_absent vs k s e) refl
