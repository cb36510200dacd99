-- Memory stays as long as it is, and its numbers small, whatever it holds and whatever is said.
use Rattle.std.proofs.Common.{◌≡◌, ℕ, zero, suc, ◌<◌, Bool, true, false, eqb, ltb, List, [], ◌∷◌, ◌++◌, length, get_or, take, drop, set, replicate, Some, None, Option, refl, ◌∙◌, arith, ltb-true, lt-ltb, eqb-true}
use Rattle.std.proofs.lemmas.List.{length-replicate}
use Rattle.value.specs.Versions.{pick, every, Version, version}
use Rattle.value.proofs.TestLaws.{and_left_of, and_right_of, every_append}
use Rattle.memtable.specs.Arena.{gone_at}
use Rattle.memtable.specs.Holds.{small}
use Rattle.memtable.specs.declared.memtable.Memtable.{Memtable}
use Rattle.memtable.proofs.SteadyLaws.{append_keeps, enter_keeps}
use Rattle.store.specs.House.{Command, write, erase, get, range, first_key, last_key, count, flush, compact}
use Rattle.store.specs.Promise.{Event, on, said, page, next, Step, done, tells, refused, all_small, Steady}
use Rattle.store.specs.Control.{memory_words, phase_number, control, control_of, put_control}
use Rattle.store.specs.Regions.{wrap, region, within, index_of, arena_of, in_arena, in_index, sought}
use Rattle.store.specs.Write.{put_in, wrote}
use Rattle.store.specs.Checks.{checked, key_size, value_size, proper_moment, not_earlier, unwritten, roomy, within_pages}
use Rattle.store.specs.Acts.{stepped}
use Rattle.store.specs.Get.{told_of, got}
use Rattle.store.specs.Shown.{row_at}
use Rattle.store.specs.Own.{powered, went_on, heard, turned, blank_memory, own}
use Rattle.store.specs.declared.control.Phase.{Phase}
use Rattle.store.specs.declared.control.Phase.TheVariants.{Idle, Shown}
use Rattle.store.specs.declared.control.Control.{Control}
use Rattle.store.proofs.MemoryLaws.{length_put, length_in_arena, length_in_index}

-- what is owed of every step
data Keeps (m : List ℕ) (s : Step) : Type 0 where
  kept : (length s.memory ≡ length m) × (all_small m ≡ true → all_small s.memory ≡ true) → Keeps m s

-- LISTS OF SMALL NUMBERS
small_set : (m : List ℕ) (i x : ℕ) → x < 18446744073709551616 → all_small m ≡ true → all_small (set m i x) ≡ true
unfolding all_small every
small_set [] i x h a = refl
small_set (y ∷ m) zero x h a = rw (lt-ltb x _ h) (and_right_of (ltb y 18446744073709551616) _ a)
small_set (y ∷ m) (suc i) x h a = rw (and_left_of (ltb y 18446744073709551616) _ a) (small_set m i x h (and_right_of (ltb y 18446744073709551616) _ a))

small_take : (n : ℕ) (m : List ℕ) → all_small m ≡ true → all_small (take n m) ≡ true
unfolding all_small every
small_take zero m a = refl
small_take (suc n) [] a = refl
small_take (suc n) (y ∷ m) a = rw (and_left_of (ltb y 18446744073709551616) _ a) (small_take n m (and_right_of (ltb y 18446744073709551616) _ a))

small_drop : (n : ℕ) (m : List ℕ) → all_small m ≡ true → all_small (drop n m) ≡ true
unfolding all_small every
small_drop zero m a = a
small_drop (suc n) [] a = refl
small_drop (suc n) (y ∷ m) a = small_drop n m (and_right_of (ltb y 18446744073709551616) _ a)

small_append : (xs ys : List ℕ) → all_small xs ≡ true → all_small ys ≡ true → all_small (xs ++ ys) ≡ true
unfolding all_small
small_append xs ys a b = every_append (λ m. ltb m 18446744073709551616) xs ys a b

small_getD : (m : List ℕ) (i : ℕ) → all_small m ≡ true → get_or m i 0 < 18446744073709551616
unfolding all_small every
small_getD [] i a = omega arith
small_getD (y ∷ m) zero a = ltb-true y 18446744073709551616 (and_left_of (ltb y 18446744073709551616) _ a)
small_getD (y ∷ m) (suc i) a = small_getD m i (and_right_of (ltb y 18446744073709551616) _ a)

small_region : (a n : ℕ) (m : List ℕ) → all_small m ≡ true → all_small (region a n m) ≡ true
unfolding region
small_region a n m h = small_take n (drop a m) (small_drop a m h)

small_within : (a n : ℕ) (f : List ℕ → List ℕ) (m : List ℕ) → all_small m ≡ true → all_small (f (region a n m)) ≡ true → all_small (within a n f m) ≡ true
unfolding within
small_within a n f m h e = small_append (take a m) (f (region a n m) ++ drop n (drop a m)) (small_take a m h) (small_append (f (region a n m)) (drop n (drop a m)) e (small_drop n (drop a m) (small_drop a m h)))

-- the memtable's word for it is the same
as_small : (m : List ℕ) → all_small m ≡ true → small m ≡ true
unfolding all_small small
as_small m a = a

from_small : (m : List ℕ) → small m ≡ true → all_small m ≡ true
unfolding all_small small
from_small m a = a

-- CONTROL WORDS
phase_small : (p : Phase) → phase_number p < 18446744073709551616
phase_small Idle = omega arith
phase_small Shown = omega arith

wrap_below : (n : ℕ) → wrap n < 18446744073709551616
wrap_below n = omega arith

small_put : (m : List ℕ) (k : Control) → all_small m ≡ true → all_small (put_control m k) ≡ true
unfolding put_control
small_put m k a =
    small_set _ 5 _ (wrap_below k.table.weight) (small_set _ 4 _ (wrap_below k.table.used) (small_set _ 3 _ (wrap_below k.table.versions)
    (small_set _ 2 _ (wrap_below k.last) (small_set _ 1 _ (wrap_below k.pages) (small_set m 0 _ (phase_small k.phase) a)))))

put_keeps : (m : List ℕ) (k : Control) → (length (put_control m k) ≡ length m) × (all_small m ≡ true → all_small (put_control m k) ≡ true)
put_keeps m k = (length_put m k, small_put m k)

-- THE STEPS
same_keeps : (m : List ℕ) → (length m ≡ length m) × (all_small m ≡ true → all_small m ≡ true)
same_keeps m = (refl, λ a. a)

checked_keeps : {A : Type 0} (o : Option A) (r : ℕ) (m : List ℕ) (f : A → Step) → ((x : A) → Keeps m (f x)) → Keeps m (checked o r m f)
checked_keeps None r m f g = kept (same_keeps m)
checked_keeps (Some x) r m f g = g x

put_in_keeps : (m : List ℕ) (k : Control) (place : ℕ) (t : Memtable) (v : Version) → length m ≡ memory_words → (all_small m ≡ true → k.table.used < 18446744073709551616) →
    (length (put_in k place t v m) ≡ length m) × (all_small m ≡ true → all_small (put_in k place t v m) ≡ true)
unfolding put_in in_arena in_index
put_in_keeps m k place t v l u =
    let m₁ = in_arena k.table.used v m in
    let m₂ = in_index k.table place m₁ in
    let l₁ : length m₁ ≡ memory_words = length_in_arena m l k.table.used v ∙ l in (
      length_put m₂ _ ∙ length_in_index m₁ l₁ k.table place ∙ length_in_arena m l k.table.used v,
      λ a.
          let s₁ : all_small m₁ ≡ true = small_within 16448 131072 _ m a (from_small _ ((append_keeps (arena_of m) k.table.used v).1 (as_small _ (small_region 16448 131072 m a)))) in
          small_put m₂ _ (small_within 64 16384 _ m₁ s₁ (from_small _ ((enter_keeps (index_of m₁) k.table.versions place k.table.used).1 (u a) (as_small _ (small_region 64 16384 m₁ s₁))))),
    )

wrote_keeps : (m : List ℕ) (k : Control) (v : Version) → length m ≡ memory_words → (all_small m ≡ true → k.table.used < 18446744073709551616) → Keeps m (wrote k m v)
unfolding wrote
wrote_keeps m k v l u =
    checked_keeps (key_size v.key) 6 m _ (λ kl. checked_keeps (value_size v.value) 6 m _ (λ vl. checked_keeps (proper_moment v.moment) 6 m _ (λ s.
    checked_keeps (not_earlier k.last s) 3 m _ (λ s₁. checked_keeps (unwritten k.table m v.key s₁) 3 m _ (λ place. checked_keeps (roomy k.table kl vl) 7 m _ (λ t.
    checked_keeps (within_pages k.pages t.weight) 8 m _ (λ w. kept (put_in_keeps m k place t (version v.key s₁ v.gone v.value) l u))))))))

told_keeps : (m : List ℕ) (k : Control) (f : Option ℕ) → Keeps m (told_of k m f)
unfolding told_of
told_keeps m k None = kept (same_keeps m)
told_keeps m k (Some p) = go (gone_at (arena_of m) p)
  where
    go : (b : Bool) → Keeps m (pick b (stepped m done) (stepped (put_control m (control Shown k.pages k.last k.table)) (tells (row_at (arena_of m) p))))
    go true = kept (same_keeps m)
    go false = kept (put_keeps m _)

heard_keeps : (m : List ℕ) (k : Control) (c : Command) → length m ≡ memory_words → (all_small m ≡ true → k.table.used < 18446744073709551616) → Keeps m (heard k m c)
unfolding heard got
heard_keeps m k (write key s v) l u = wrote_keeps m k _ l u
heard_keeps m k (erase key s) l u = wrote_keeps m k _ l u
heard_keeps m k (get key s) l u = told_keeps m k (sought k.table m key s)
heard_keeps m k (range a b s) l u = kept (same_keeps m)
heard_keeps m k (first_key s) l u = kept (same_keeps m)
heard_keeps m k (last_key s) l u = kept (same_keeps m)
heard_keeps m k (count s) l u = kept (same_keeps m)
heard_keeps m k flush l u = kept (same_keeps m)
heard_keeps m k (compact t) l u = kept (same_keeps m)

went_keeps : (m : List ℕ) (k : Control) (p : Phase) → Keeps m (went_on k m p)
unfolding went_on
went_keeps m k Idle = kept (same_keeps m)
went_keeps m k Shown = kept (put_keeps m _)

turned_keeps : (m : List ℕ) (k : Control) (ev : Event) → length m ≡ memory_words → (all_small m ≡ true → k.table.used < 18446744073709551616) → Keeps m (turned k m ev)
unfolding turned powered
turned_keeps m k (on n) l u = kept (put_keeps m _)
turned_keeps m k (said c) l u = heard_keeps m k c l u
turned_keeps m k (page p) l u = kept (same_keeps m)
turned_keeps m k next l u = went_keeps m k k.phase

used_small : (m : List ℕ) → all_small m ≡ true → (control_of m).table.used < 18446744073709551616
unfolding control_of
used_small m a = small_getD m 4 a

step_keeps : (m : List ℕ) (ev : Event) → Keeps m (own.step m ev)
unfolding own
step_keeps m ev = go (eqb (length m) memory_words) refl
  where
    go : (b : Bool) → eqb (length m) memory_words ≡ b → Keeps m (pick b (turned (control_of m) m ev) (stepped m (refused 2)))
    go true e = turned_keeps m (control_of m) ev (eqb-true (length m) memory_words e) (used_small m)
    go false e = kept (same_keeps m)

every_same : (f : ℕ → Bool) (n x : ℕ) → f x ≡ true → every f (replicate n x) ≡ true
unfolding every
every_same f zero x h = refl
every_same f (suc n) x h = rw h (every_same f n x h)

pub start_long : length own.start ≡ memory_words
unfolding own blank_memory
start_long = length-replicate {A = ℕ} 147520 0

start_zero : every (λ m. eqb m 0) own.start ≡ true
unfolding own blank_memory
start_zero = every_same (λ m. eqb m 0) 147520 0 refl

unpack : (m : List ℕ) (s : Step) → Keeps m s → (length s.memory ≡ length m) × (all_small m ≡ true → all_small s.memory ≡ true)
unpack m s (kept x) = x

pub steady : Steady own
unfolding Steady
steady = (omega (arith, start_long), start_zero, λ m ev. unpack m (own.step m ev) (step_keeps m ev))
