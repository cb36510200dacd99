-- How a get ends: it shows what the house shows, in one row or none.
use Rattle.std.proofs.Common.{◌≡◌, ℕ, ◌≤◌, Bool, true, false, ◌&&◌, ltb, leb, List, [], ◌∷◌, ◌++◌, length, take, Some, None, Option, sym, refl, ap, ◌∙◌, subst, arith, length-append, le-leb, leb-true}
use Rattle.std.proofs.lemmas.List.{take_all}
use Rattle.value.specs.Versions.{pick, every, those, each, none_of, same, Version, latest}
use Rattle.value.proofs.TestLaws.{and_left_of, and_right_of}
use Rattle.memtable.specs.Words.{bytes}
use Rattle.memtable.specs.Arena.{key_length, key_at, value_at, gone_at, version_at}
use Rattle.memtable.specs.Holds.{fits, as_list}
use Rattle.memtable.proofs.WordLaws.{length_row}
use Rattle.memtable.proofs.AnswerLaws.{find_right}
use Rattle.store.specs.House.{House, get, shown_as, shows}
use Rattle.store.specs.Promise.{Step, done, tells}
use Rattle.store.specs.Control.{control, control_of, put_control}
use Rattle.store.specs.Regions.{index_of, arena_of, sought}
use Rattle.store.specs.Acts.{stepped}
use Rattle.store.specs.Get.{told_of, got}
use Rattle.store.specs.Shown.{row_at}
use Rattle.store.specs.declared.control.Phase.TheVariants.{Idle, Shown}
use Rattle.store.proofs.HeldLaws.{Held, held_phase}

pub data Outcome (pages : ℕ) (h : House) (m key : List ℕ) (t : ℕ) (s : Step) : Type 0 where
  nothing_shown : s ≡ stepped m done → shows h (get key t) ≡ [] → Outcome pages h m key t s
  row_shown : (m₁ row : List ℕ) → s ≡ stepped m₁ (tells row) → leb (length row) 1280 ≡ true → shows h (get key t) ≡ row ∷ [] → Held pages h Shown m₁ → Outcome pages h m key t s

-- what holds of all versions holds of the latest
latest_every : (f : Version → Bool) (vs : List Version) (k : List ℕ) (s : ℕ) → every f vs ≡ true → every f (latest vs k s) ≡ true
unfolding every latest none_of
latest_every f [] k s h = refl
latest_every f (v ∷ vs) k s h = go (latest vs k s) (same v.key k && ltb v.moment s) (latest_every f vs k s (and_right_of (f v) (every f vs) h))
  where
    go : (l : List Version) (b : Bool) → every f l ≡ true → every f (pick (none_of l) (pick b (v ∷ []) []) l) ≡ true
    go [] true e = rw (and_left_of (f v) (every f vs) h) refl
    go [] false e = refl
    go (x ∷ xs) b e = e

one_every : (f : Version → Bool) (v : Version) (l : List Version) → l ≡ v ∷ [] → every f l ≡ true → f v ≡ true
unfolding every
one_every f v l e h = and_left_of (f v) true (rw e at h)

-- a version that fits is a row that fits
row_is : (a : List ℕ) (p : ℕ) → fits (version_at a p) ≡ true → (row_at a p ≡ shown_as (version_at a p)) × (leb (length (row_at a p)) 1280 ≡ true)
unfolding fits row_at version_at
row_is a p f =
    let ks = key_at a p in
    let vs = value_at a p in
    let lens = and_left_of (leb 1 (length ks) && (leb (length ks) 255 && leb (length vs) 1024)) _ f in
    let rest = and_right_of (leb 1 (length ks)) (leb (length ks) 255 && leb (length vs) 1024) lens in
    let k = leb-true (length ks) 255 (and_left_of (leb (length ks) 255) (leb (length vs) 1024) rest) in
    let v = leb-true (length vs) 1024 (and_right_of (leb (length ks) 255) (leb (length vs) 1024) rest) in
    let n : length (key_length a p ∷ (ks ++ vs)) ≤ 1280 = omega (arith, length-append ks vs) in
    let all : take 1280 (key_length a p ∷ (ks ++ vs)) ≡ key_length a p ∷ (ks ++ vs) = take_all 1280 (key_length a p ∷ (ks ++ vs)) n in
    (all ∙ ap (λ x. x ∷ (ks ++ vs)) (sym (length_row a p 2 (key_length a p))), ap (λ x. leb (length x) 1280) all ∙ le-leb (length (key_length a p ∷ (ks ++ vs))) 1280 n)

module _ (pages : ℕ) (h : House) (m key : List ℕ) (t : ℕ) (o : Held pages h Idle m) (b : bytes key ≡ true) where
  found_is : each (version_at (arena_of m)) (as_list (sought o.table m key t)) ≡ latest h.versions key t
  unfolding sought
  found_is = find_right (index_of m) (arena_of m) o.table h.versions key t o.holds o.rises b

  shows_none : latest h.versions key t ≡ [] → shows h (get key t) ≡ []
  unfolding shows those each
  shows_none e = rw e refl

  shows_gone : (v : Version) → latest h.versions key t ≡ v ∷ [] → v.gone ≡ true → shows h (get key t) ≡ []
  unfolding shows those each
  shows_gone v e g = rw (e, g) refl

  shows_one : (v : Version) → latest h.versions key t ≡ v ∷ [] → v.gone ≡ false → shows h (get key t) ≡ shown_as v ∷ []
  unfolding shows those each
  shows_one v e g = rw (e, g) refl

  told : (f : Option ℕ) → each (version_at (arena_of m)) (as_list f) ≡ latest h.versions key t → Outcome pages h m key t (told_of (control Idle pages h.last o.table) m f)
  unfolding told_of each version_at
  told None e = nothing_shown refl (shows_none (sym e))
  told (Some p) e = go (gone_at (arena_of m) p) refl
    where
      go : (g : Bool) → gone_at (arena_of m) p ≡ g →
          Outcome pages h m key t (pick g (stepped m done) (stepped (put_control m (control Shown pages h.last o.table)) (tells (row_at (arena_of m) p))))
      go true g = nothing_shown refl (shows_gone (version_at (arena_of m) p) (sym e) g)
      go false g =
          let ok = latest_every fits h.versions key t o.holds.fit in
          let (r, l) = row_is (arena_of m) p (one_every fits (version_at (arena_of m) p) (latest h.versions key t) (sym e) ok) in
          row_shown (put_control m (control Shown pages h.last o.table)) (row_at (arena_of m) p) refl l (shows_one (version_at (arena_of m) p) (sym e) g ∙ ap (λ x. x ∷ []) (sym r)) (held_phase pages h Idle Shown m o)

  pub got_outcome : Outcome pages h m key t (got (control_of m) m key t)
  unfolding got
  got_outcome = subst (λ k. Outcome pages h m key t (got k m key t)) (sym o.control_is) (told (sought o.table m key t) found_is)
