-- The commit: power-on finds the list that the pages hold, and the next list comes whole or not at all.
use Rattle.std.proofs.Common.{◌≡◌, ℕ, zero, suc, ◌%◌, ◌<◌, ◌≤◌, Bool, true, false, eqb, ltb, ◌⊎◌, List, [], length, take, drop, sym, refl, ap, ◌∙◌, inl, inr, arith, le-ltb, lt-ltb, ne_eqb, eqb-true}
use Rattle.std.proofs.lemmas.List.{drop-drop, take-take}
use Rattle.value.specs.Versions.{pick}
use Rattle.value.specs.Numbers.{number}
use Rattle.value.proofs.TestLaws.{and_left_of}
use Rattle.table.specs.Device.{Page, set_page, page_at, all_written, half, left, elsewhere, zeros}
use Rattle.table.proofs.DeviceLaws.{length_set_page, page_set_here, page_set_else, length_written, length_left, written_else, left_else, left_one, elsewhere_more, half_front, half_back, length_blank, page_blank}
use Rattle.manifest.specs.declared.fields.Manifest.{Manifest}
use Rattle.manifest.specs.Manifest.{word_at, words_of, manifest_page, manifest_in, is_whole, empty_manifest}
use Rattle.manifest.specs.Places.{slot_of}
use Rattle.manifest.specs.Commit.{found_in, later_of, chosen, list_write, Committed, Next, torn, torn_often, ChoiceRight, TornTold, StopKeepsList, TornAgain, SettledIsNext, ListApart, BlankIsEmpty, FreeHalfApart}
use Rattle.manifest.proofs.PageLaws.{page_word, page_whole, page_back, page_is, blank_says, blank_whole}
use Rattle.manifest.proofs.PlaceLaws.{free_elsewhere, lists_elsewhere}

-- the number in a page's first half is that of the list it says
number_says : (m : Manifest) (p : Page) → manifest_in p ≡ m → word_at 0 p ≡ m.commit
unfolding manifest_in
number_says m p e = ap (λ x. x.commit) e

-- of two pages the one that holds
first_holds : (m : Manifest) (p q : Page) → manifest_in p ≡ m → is_whole p ≡ true → word_at 62 q ≤ m.commit → later_of (found_in p) (found_in q) ≡ m
unfolding manifest_in
first_holds m p q s w o = rw w (go (is_whole q) refl)
  where
    go : (b : Bool) → is_whole q ≡ b → pick b (pick (ltb (word_at 0 p) (word_at 0 q)) (manifest_in q) (manifest_in p)) (manifest_in p) ≡ m
    go true e = rw (le-ltb (word_at 0 p) (word_at 0 q) (omega (arith, number_says m p s, eqb-true _ _ e))) s
    go false e = s

second_holds : (m : Manifest) (p q : Page) → manifest_in q ≡ m → is_whole q ≡ true → word_at 62 p < m.commit → later_of (found_in p) (found_in q) ≡ m
unfolding manifest_in
second_holds m p q s w o = go (is_whole p) refl
  where
    go : (b : Bool) → is_whole p ≡ b →
        pick b (pick (is_whole q) (pick (ltb (word_at 0 p) (word_at 0 q)) (manifest_in q) (manifest_in p)) (manifest_in p)) (manifest_in q) ≡ m
    go true e = rw (w, lt-ltb (word_at 0 p) (word_at 0 q) (omega (arith, number_says m q s, eqb-true _ _ e))) s
    go false e = s

-- the two slots
slots : (c : ℕ) → ((slot_of c ≡ 0) × (slot_of (suc c) ≡ 1)) ⊎ ((slot_of c ≡ 1) × (slot_of (suc c) ≡ 0))
slots c = go (c % 2) refl
  where
    go : (r : ℕ) → c % 2 ≡ r → ((c % 2 ≡ 0) × (suc c % 2 ≡ 1)) ⊎ ((c % 2 ≡ 1) × (suc c % 2 ≡ 0))
    go zero e = inl (e, omega arith)
    go (suc zero) e = inr (e, omega arith)
    go (suc (suc r)) e = absurd (omega arith)

pub choice_right : ChoiceRight
choice_right m ps c = go (slots m.commit)
  where
    go : ((slot_of m.commit ≡ 0) × (slot_of (suc m.commit) ≡ 1)) ⊎ ((slot_of m.commit ≡ 1) × (slot_of (suc m.commit) ≡ 0)) → chosen ps ≡ m
    go (inl (e, f)) = first_holds m (page_at ps 0) (page_at ps 1) (rw e at c.says) (rw e at c.whole) (omega (arith, rw f at c.older))
    go (inr (e, f)) = second_holds m (page_at ps 0) (page_at ps 1) (rw e at c.says) (rw e at c.whole) (omega (arith, rw f at c.older))

-- what leaves both slots as they are
slots_same : (m : Manifest) (ps qs : List Page) → length qs ≡ length ps → page_at qs 0 ≡ page_at ps 0 → page_at qs 1 ≡ page_at ps 1 → Committed m ps → Committed m qs
slots_same m ps qs l a b c = record {
  room = omega (arith, c.room);
  says = ap manifest_in (same m.commit) ∙ c.says;
  whole = ap is_whole (same m.commit) ∙ c.whole;
  older = rw (same (suc m.commit)) c.older;
}
  where
    same : (k : ℕ) → page_at qs (slot_of k) ≡ page_at ps (slot_of k)
    same k = go (slots k)
      where
        go : ((slot_of k ≡ 0) × (slot_of (suc k) ≡ 1)) ⊎ ((slot_of k ≡ 1) × (slot_of (suc k) ≡ 0)) → page_at qs (slot_of k) ≡ page_at ps (slot_of k)
        go (inl (e, f)) = rw e a
        go (inr (e, f)) = rw e b

-- the number in the second half of a torn page is the one that stood there
torn_number : (new old : Page) → 256 ≤ length new → word_at 62 (half new old) ≡ word_at 62 old
unfolding word_at
torn_number new old h =
    ap (λ l. number (take 8 l) % 18446744073709551616) (sym (drop-drop 240 256 (half new old)) ∙ ap (drop 240) (half_back new old h) ∙ drop-drop 240 256 old)

torn_front : (new old : Page) → 256 ≤ length new → word_at 0 (half new old) ≡ word_at 0 new
unfolding word_at
torn_front new old h =
    ap (λ l. number l % 18446744073709551616)
    (sym (take-take 8 256 (half new old) (omega arith)) ∙ ap (take 8) (half_front new old h) ∙ take-take 8 256 new (omega arith))

page_long : (m : Manifest) → length (manifest_page m) ≡ 512
page_long m = eqb-true _ _ (and_left_of (eqb (length (manifest_page m)) 512) _ (page_is m).0)

pub torn_told : TornTold
unfolding words_of
torn_told n old f h =
    let new = manifest_page n in
    let front : word_at 0 (half new old) ≡ n.commit = torn_front new old (omega (arith, page_long n)) ∙ page_word n 0 (omega arith) f.commit in
    ne_eqb _ _ (λ e. omega (arith, front, torn_number new old (omega (arith, page_long n))))

-- the next list, all of it
next_whole : (m n : Manifest) (ps : List Page) → Committed m ps → Next m n → Committed n (set_page ps (slot_of n.commit) (manifest_page n))
unfolding words_of
next_whole m n ps c x =
    let here = page_set_here ps (slot_of n.commit) (manifest_page n) (omega (arith, c.room)) in
    let num = x.number in
    let s : slot_of (suc n.commit) ≡ slot_of m.commit = omega arith in
    let there : page_at (set_page ps (slot_of n.commit) (manifest_page n)) (slot_of (suc n.commit)) ≡ page_at ps (slot_of m.commit) =
    page_set_else ps (slot_of n.commit) (manifest_page n) (slot_of (suc n.commit)) (λ e. omega arith) ∙ ap (page_at ps) s in
    record {
      room = omega (arith, length_set_page ps (slot_of n.commit) (manifest_page n), c.room);
      says = ap manifest_in here ∙ page_back n x.fits;
      whole = ap is_whole here ∙ page_whole n x.fits.commit;
      older = rw there (omega (arith, eqb-true _ _ c.whole, number_says m (page_at ps (slot_of m.commit)) c.says));
    }

-- its first half
next_torn : (m n : Manifest) (ps : List Page) → Committed m ps → Next m n → Committed m (torn n ps)
next_torn m n ps c x =
    let num = x.number in
    let new = half (manifest_page n) (page_at ps (slot_of n.commit)) in
    let s : slot_of (suc m.commit) ≡ slot_of n.commit = omega arith in
    let there : page_at (torn n ps) (slot_of m.commit) ≡ page_at ps (slot_of m.commit) = page_set_else ps (slot_of n.commit) new (slot_of m.commit) (λ e. omega arith) in
    let here : page_at (torn n ps) (slot_of (suc m.commit)) ≡ new = ap (page_at (torn n ps)) s ∙ page_set_here ps (slot_of n.commit) new (omega (arith, c.room)) in
    let old : word_at 62 new ≡ word_at 62 (page_at ps (slot_of (suc m.commit))) =
    torn_number (manifest_page n) (page_at ps (slot_of n.commit)) (omega (arith, page_long n)) ∙ ap (λ k. word_at 62 (page_at ps k)) (sym s) in
    record {
      room = omega (arith, length_set_page ps (slot_of n.commit) new, c.room);
      says = ap manifest_in there ∙ c.says;
      whole = ap is_whole there ∙ c.whole;
      older = rw (here, old) c.older;
    }

pub stop_keeps_list : StopKeepsList
stop_keeps_list m n ps cs c x =
    left_one ps (slot_of n.commit) (manifest_page n) cs (λ qs. Committed m qs ⊎ Committed n qs) (inl c) (inr (next_whole m n ps c x)) (inl (next_torn m n ps c x))

pub torn_again : TornAgain
unfolding torn_often
torn_again m ns zero ps c x = c
torn_again m ns (suc k) ps c x = next_torn m (ns k) (torn_often ns k ps) (torn_again m ns k ps c x) (x k)

pub settled_is_next : SettledIsNext
unfolding all_written
settled_is_next m n ps c x = next_whole m n ps c x

pub list_apart : ListApart
unfolding elsewhere
list_apart n k h = elsewhere_more k (list_write n) [] (λ e. omega arith) refl

pub blank_is_empty : BlankIsEmpty
blank_is_empty n a b =
    let first = page_blank n 0 (omega arith) in
    record {
      room = omega (arith, length_blank n);
      says = ap manifest_in first ∙ blank_says;
      whole = ap is_whole first ∙ blank_whole;
      older = rw (page_blank n 1 (omega arith)) (omega (arith, eqb-true _ _ blank_whole, number_says empty_manifest (zeros 512) blank_says));
    }

pub free_half_apart : FreeHalfApart
free_half_apart = record {
  apart = free_elsewhere;
  kept_left = λ n h ps qs cs k e w. left_else ps qs cs k (free_elsewhere n h qs k e w);
  kept_settled = λ n h ps qs k e w. written_else ps qs k (free_elsewhere n h qs k e w);
  list_left = λ m n h ps qs cs e c.
      slots_same m ps (left ps qs cs) (length_left ps qs cs) (left_else ps qs cs 0 (lists_elsewhere n h qs 0 e (omega arith))) (left_else ps qs cs 1 (lists_elsewhere n h qs 1 e (omega arith))) c;
  list_settled = λ m n h ps qs e c.
      slots_same m ps (all_written ps qs) (length_written ps qs) (written_else ps qs 0 (lists_elsewhere n h qs 0 e (omega arith))) (written_else ps qs 1 (lists_elsewhere n h qs 1 e (omega arith))) c;
}
