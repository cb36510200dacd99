-- Writing and erasing serve the house: a step, and they have ended as they may.
use Rattle.std.proofs.Common.{◌≡◌, ℕ, ◌<◌, Bool, true, false, ◌&&◌, ltb, leb, List, [], ◌∷◌, ◌++◌, length, sym, refl, ap, ◌∙◌, subst, inl, inr, arith, lt-ltb, le-leb}
use Rattle.value.specs.Versions.{every, Version, version, weight}
use Rattle.value.proofs.TestLaws.{and_left_of, and_right_of}
use Rattle.memtable.specs.Words.{bytes}
use Rattle.store.specs.House.{House, Command, write, erase, get, a_key, refusal, after, shows, written, unsafe, full_by, RefusedToo, small_command}
use Rattle.store.specs.Promise.{Event, said, Step, World, world}
use Rattle.store.specs.Account.{Next, NextStep, leavings, TellsRight, StopLeaves, Ends, rejected, no_room, finished, nothing, undone, most_commands, Serves}
use Rattle.store.specs.Control.{control_of}
use Rattle.store.specs.Write.{wrote}
use Rattle.store.specs.Own.{known, heard, turned, own}
use Rattle.store.specs.declared.control.Phase.TheVariants.{Idle, Shown}
use Rattle.store.proofs.RunLaws.{next_by}
use Rattle.store.proofs.WroteLaws.{version_refusal, Outcome, rejected_by, too_heavy, too_full, taken_in, wrote_outcome}
use Rattle.store.proofs.OwnAccount.{Rest, Within, begun, shown, account, rest_stops, step_is}

-- what a command that writes a version owes, by that version
pub record Writes (c : Command) (v : Version) : Type 0 where
  pub is_known : known c ≡ true
  pub refuses : (h : House) → refusal h c ≡ version_refusal h v
  pub leaves : (h : House) → after h c ≡ written h v
  pub shows_none : (h : House) → shows h c ≡ []
  pub hears_it : (m : List ℕ) → turned (control_of m) m (said c) ≡ wrote (control_of m) m v
  pub heavy : (h : House) (pages : ℕ) → ltb 1048576 (weight (unsafe (written h v))) ≡ true → RefusedToo h pages c 7
  pub full : (h : House) (pages : ℕ) → full_by (written h v) pages ≡ true → ltb 1048576 (weight (unsafe (written h v))) ≡ false → RefusedToo h pages c 8
  pub key_bytes : small_command c ≡ true → bytes v.key ≡ true
  pub value_bytes : small_command c ≡ true → bytes v.value ≡ true
  pub no_get : (key : List ℕ) (s : ℕ) → c ≡ get key s → ⊥

module _ (c : Command) (v : Version) (W : Writes c v) where
  ends_so : (n pages : ℕ) (h : House) (w : World) (ts : List (List ℕ)) (μ : ℕ) (s : Step) → Rest pages h Idle w → ts ≡ [] → Outcome pages h w.memory v s →
      Next (account.Busy n pages h c) (Ends known account n pages h c) w.device ts s.memory μ s.act
  ends_so n pages h w ts μ s r t (rejected_by k q a b e) =
      rw q (rw (le-leb 1 k a, lt-ltb k 1000 b) refl, rejected W.is_known (omega (arith, W.refuses h)) (sym (W.refuses h ∙ e)) t r)
  ends_so n pages h w ts μ s r t (too_heavy q z x) = rw q (refl, no_room W.is_known (W.refuses h ∙ z) (W.heavy h pages x) t r)
  ends_so n pages h w ts μ s r t (too_full q z x y) = rw q (refl, no_room W.is_known (W.refuses h ∙ z) (W.full h pages x y) t r)
  ends_so n pages h w ts μ s r t (taken_in m₁ q z x) =
      rw q (finished W.is_known (W.refuses h ∙ z) refl (t ∙ sym (W.shows_none h))
      (subst (λ y. Rest pages y Idle (world w.device m₁)) (sym (W.leaves h)) record { quiet = r.quiet; sized = r.sized; held = x }))

  pub write_serves : Serves known own account c
  write_serves = record {
    hears = λ n pages h w b g i. (1, begun i g refl refl refl);
    works_on = works;
    tells_right = tells;
    stop_leaves = stops;
  }
    where
      works : (n pages : ℕ) (h : House) (w : World) (ev : Event) (ts : List (List ℕ)) (μ : ℕ) → n < most_commands → Within pages h c w ev ts μ →
          NextStep own (account.Busy n pages h c) (Ends known account n pages h c) w ev ts μ
      works n pages h w ev ts μ b (begun r g e t z) =
          next_by own (account.Busy n pages h c) (Ends known account n pages h c) w ev ts μ (wrote (control_of w.memory) w.memory v)
          (ap (own.step w.memory) e ∙ step_is w.memory (said c) r.held.long ∙ W.hears_it w.memory)
          (ends_so n pages h w ts μ (wrote (control_of w.memory) w.memory v) r t (wrote_outcome pages h w.memory v r.held (W.key_bytes g) (W.value_bytes g)))
      works n pages h w ev ts μ b (shown key s x r e t z) = absurd (W.no_get key s x)

      tells : (n pages : ℕ) (h : House) (w : World) (ev : Event) (ts : List (List ℕ)) (μ : ℕ) → n < most_commands → Within pages h c w ev ts μ → TellsRight known h c ts
      tells n pages h w ev ts μ b (begun r g e t z) = nothing t
      tells n pages h w ev ts μ b (shown key s x r e t z) = absurd (W.no_get key s x)

      stops : (n pages : ℕ) (h : House) (w : World) (ev : Event) (ts : List (List ℕ)) (μ : ℕ) → n < most_commands → Within pages h c w ev ts μ →
          (cs : List ℕ) → StopLeaves known account n pages h c (leavings w cs)
      stops n pages h w ev ts μ b (begun r g e t z) cs = undone (rest_stops pages h Idle w r cs)
      stops n pages h w ev ts μ b (shown key s x r e t z) cs = undone (rest_stops pages h Shown w r cs)

-- A WRITE, AND AN ERASURE
every_front : (f : ℕ → Bool) (xs ys : List ℕ) → every f (xs ++ ys) ≡ true → every f xs ≡ true
unfolding every
every_front f [] ys h = refl
every_front f (x ∷ xs) ys h = rw (and_left_of (f x) (every f (xs ++ ys)) h) (every_front f xs ys (and_right_of (f x) (every f (xs ++ ys)) h))

every_back : (f : ℕ → Bool) (xs ys : List ℕ) → every f (xs ++ ys) ≡ true → every f ys ≡ true
unfolding every
every_back f [] ys h = h
every_back f (x ∷ xs) ys h = every_back f xs ys (and_right_of (f x) (every f (xs ++ ys)) h)

abbrev is_byte : ℕ → Bool
is_byte b = ltb b 256

write_bytes : (k : List ℕ) (m : ℕ) (v : List ℕ) → small_command (write k m v) ≡ true → every is_byte (k ++ v) ≡ true
unfolding small_command
write_bytes k m v g =
    and_left_of (every is_byte (k ++ v)) (ltb m 18446744073709551616)
    (and_right_of (leb (length v) 4096) (every is_byte (k ++ v) && ltb m 18446744073709551616)
    (and_right_of (leb (length k) 4096) (leb (length v) 4096 && (every is_byte (k ++ v) && ltb m 18446744073709551616)) g))

erase_bytes : (k : List ℕ) (m : ℕ) → small_command (erase k m) ≡ true → every is_byte k ≡ true
unfolding small_command
erase_bytes k m g =
    and_left_of (every is_byte k) (ltb m 18446744073709551616) (and_right_of (leb (length k) 4096) (every is_byte k && ltb m 18446744073709551616) g)

and_true : (b : Bool) → (b && true) ≡ b
and_true true = refl
and_true false = refl

never_write : (k : List ℕ) (m : ℕ) (v key : List ℕ) (s : ℕ) → write k m v ≡ get key s → ⊥
never_write k m v key s e = let z : ◌≡◌ {A = ℕ} 0 1 = cc in omega arith

never_erase : (k : List ℕ) (m : ℕ) (key : List ℕ) (s : ℕ) → erase k m ≡ get key s → ⊥
never_erase k m key s e = let z : ◌≡◌ {A = ℕ} 0 1 = cc in omega arith

pub write_writes : (k : List ℕ) (m : ℕ) (v : List ℕ) → Writes (write k m v) (version k m false v)
unfolding known refusal after shows heard turned RefusedToo
write_writes k m v = record {
  is_known = refl;
  refuses = λ h. refl;
  leaves = λ h. refl;
  shows_none = λ h. refl;
  hears_it = λ mem. refl;
  heavy = λ h pages x. inl (refl, x);
  full = λ h pages x y. inr (refl, x, y);
  key_bytes = λ g. every_front is_byte k v (write_bytes k m v g);
  value_bytes = λ g. every_back is_byte k v (write_bytes k m v g);
  no_get = λ key s e. never_write k m v key s e;
}

pub erase_writes : (k : List ℕ) (m : ℕ) → Writes (erase k m) (version k m true [])
unfolding known refusal after shows heard turned RefusedToo every
erase_writes k m = record {
  is_known = refl;
  refuses = λ h. rw (and_true (a_key k)) refl;
  leaves = λ h. refl;
  shows_none = λ h. refl;
  hears_it = λ mem. refl;
  heavy = λ h pages x. inl (refl, x);
  full = λ h pages x y. inr (refl, x, y);
  key_bytes = λ g. erase_bytes k m g;
  value_bytes = λ g. refl;
  no_get = λ key s e. never_erase k m key s e;
}
