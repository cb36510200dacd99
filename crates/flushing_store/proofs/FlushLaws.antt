-- Flushing: rounds one after the other, and what is done at their end.
use Rattle.std.proofs.Common.{◌≡◌, ℕ, zero, suc, ◌+◌, ◌-◌, ◌<◌, ◌≤◌, min, true, false, List, ◌++◌, length, drop, sym, refl, ap, ◌∙◌, subst, arith, length-append, eq-eqb, ne_eqb, Option, Some, None}
use Rattle.value.specs.Numbers.{bytes_of}
use Rattle.value.proofs.NumberLaws.{length_bytes_of}
use Rattle.table.specs.Row.{octets}
use Rattle.table.specs.Sum.{page_sum}
use Rattle.table.specs.Stream.{payload, sealed}
use Rattle.table.proofs.StreamLaws.{length_payload}
use Rattle.table.specs.Cursor.{wanted, took_positions, list_with, took_data, ring_with}
use Rattle.table.specs.declared.cursor.Cursor.{Cursor}
use Rattle.table.specs.declared.cursor.Want.{Want}
use Rattle.table.specs.declared.cursor.Want.TheVariants.{Positions as WantsPositions, Data as WantsData, Head, End}
use Rattle.manifest.specs.Manifest.{manifest_page}
use Rattle.manifest.specs.declared.fields.Manifest.{Manifest}
use Rattle.flushing_store.specs.Control.{put_control, list_of, data_of, entries_of}
use Rattle.store.specs.Regions.{within}
use Rattle.flushing_store.specs.Look.{extent_of}
use Rattle.flushing_store.specs.Round.{Went, went, with_cursor, round}
use Rattle.flushing_store.specs.Flush.{spun_from, spun, performed, merged_on, begun_flush, flushed_step, page_merged}
use Rattle.flushing_store.specs.declared.control.Control.{Control}
use Rattle.store.specs.declared.told.Told.{Told}
use Rattle.store.specs.declared.told.Told.TheVariants.{Read, Put, Settle as Settles, Done, No}
use Rattle.flushing_store.specs.declared.turn.Deed.{Deed}
use Rattle.flushing_store.specs.declared.turn.Deed.TheVariants.{Fetch, Data, Positions, Settle}
use Rattle.flushing_store.specs.declared.turn.Turn.{Turn}
use Rattle.store.specs.Acts.{ActTold, Does}
use Rattle.std.specs.Prelude.{is_some}

-- THE ROUNDS
pub spun_more : (n i : ℕ) (t u : Turn) (m m₁ : List ℕ) → i < n → false ≡ is_some t.deed → u ≡ (round t.control m).turn → m₁ ≡ (round t.control m).memory →
    spun_from (n - (i + 1)) (went u.control u.deed m₁) ≡ spun_from (n - i) (went t.control t.deed m)
unfolding spun_from
spun_more n i t u m m₁ h e f g =
    let d : n - i ≡ suc (n - (i + 1)) = omega arith in
    rw (d, ← e) (λ x. spun_from (n - (i + 1)) record { turn = f x; memory = g x })

pub spun_done : (n i : ℕ) (t : Turn) (m : List ℕ) → i < n → true ≡ is_some t.deed → spun_from (n - i) (went t.control t.deed m) ≡ went t.control t.deed m
unfolding spun_from
spun_done n i t m h e = let d : n - i ≡ suc (n - (i + 1)) = omega arith in rw (d, ← e) refl

pub spun_end : (n i : ℕ) (t : Turn) (m : List ℕ) → n ≤ i → spun_from (n - i) (went t.control t.deed m) ≡ went t.control t.deed m
unfolding spun_from
spun_end n i t m h = let d : n - i ≡ zero = omega arith in rw d refl

pub spun_is : (n : ℕ) (k : Control) (m : List ℕ) (t : Turn) (m₁ : List ℕ) → went t.control t.deed m₁ ≡ spun_from n (went k None m) → (t ≡ (spun n k m).turn) × (m₁ ≡ (spun n k m).memory)
unfolding spun
spun_is n k m t m₁ e = (ap (λ (w : Went). w.turn) e, ap (λ (w : Went). w.memory) e)

-- WHAT IS DONE
pub length_sealed : (bs : List ℕ) → length (sealed bs) ≡ 512
unfolding sealed
length_sealed bs = omega (arith, length-append (payload bs) (bytes_of 8 (page_sum (payload bs))), length_payload bs, length_bytes_of 8 (page_sum (payload bs)))

pub length_page : (f : Manifest) → length (manifest_page f) ≡ 512
unfolding manifest_page
length_page f = length_sealed _

module _ (k : Control) (d : Option Deed) (m m₁ out out₁ : List ℕ) (r : Told) (e : m₁ ≡ put_control m k) where
  pub perform_more : d ≡ None → r ≡ No 2 → out₁ ≡ out → Does (performed k d m) r out m₁ out₁
  unfolding performed ActTold
  perform_more f a b = rw f (e, (a, b))

  pub perform_fetch : (q : ℕ) → (x : Deed) → d ≡ Some x → x ≡ Fetch q → r ≡ Read q → out₁ ≡ out → Does (performed k d m) r out m₁ out₁
  unfolding performed ActTold
  perform_fetch q x f g a b = rw (f, g) (e, (a, b))

  pub perform_settle : (x : Deed) → d ≡ Some x → x ≡ Settle → r ≡ Settles → out₁ ≡ out → Does (performed k d m) r out m₁ out₁
  unfolding performed ActTold
  perform_settle x f g a b = rw (f, g) (e, (a, b))

  pub perform_data : (q n : ℕ) → (x : Deed) → d ≡ Some x → x ≡ Data q n → r ≡ Put q → out₁ ≡ sealed (octets (min n 504) (data_of m)) ++ drop 512 out → Does (performed k d m) r out m₁ out₁
  unfolding performed ActTold
  perform_data q n x f g a b =
      let p = sealed (octets (min n 504) (data_of m)) in
      rw (f, g) (e, (a, b ∙ ap (λ x. p ++ drop x out) (sym (length_sealed (octets (min n 504) (data_of m))))))

  pub perform_positions : (q n : ℕ) → (x : Deed) → d ≡ Some x → x ≡ Positions q n → r ≡ Put q → out₁ ≡ sealed (octets (min n 504) (entries_of m)) ++ drop 512 out → Does (performed k d m) r out m₁ out₁
  unfolding performed ActTold
  perform_positions q n x f g a b =
      let p = sealed (octets (min n 504) (entries_of m)) in
      rw (f, g) (e, (a, b ∙ ap (λ x. p ++ drop x out) (sym (length_sealed (octets (min n 504) (entries_of m))))))

pub merges : (k : Control) (m : List ℕ) (t : Turn) (m₁ out m₂ out₁ : List ℕ) (r : Told) → t ≡ (spun 1024 k m).turn → m₁ ≡ (spun 1024 k m).memory →
    Does (performed t.control t.deed m₁) r out m₂ out₁ → Does (merged_on k m) r out m₂ out₁
unfolding merged_on
merges k m t m₁ out m₂ out₁ r e f q = rw (← e, ← f) q

pub merge_at : (k₁ k : Control) (m₁ m out m₂ out₁ : List ℕ) (r : Told) → k₁ ≡ k → m₁ ≡ m → Does (merged_on k₁ m₁) r out m₂ out₁ → Does (merged_on k m) r out m₂ out₁
merge_at k₁ k m₁ m out m₂ out₁ r e f q =
    subst (λ (x : List ℕ). Does (merged_on k x) r out m₂ out₁) f (subst (λ (x : Control). Does (merged_on x m₁) r out m₂ out₁) e q)

pub flush_none : (k : Control) (m out : List ℕ) → k.base.table.versions ≡ 0 → Does (flushed_step k m) Done out m out
unfolding flushed_step ActTold
flush_none k m out e = rw (eq-eqb k.base.table.versions 0 e) (refl, (refl, refl))

pub flush_some : (k k₁ : Control) (m out m₁ out₁ : List ℕ) (r : Told) → (k.base.table.versions ≡ 0 → ⊥) → k₁ ≡ begun_flush k → Does (merged_on k₁ m) r out m₁ out₁ → Does (flushed_step k m) r out m₁ out₁
unfolding flushed_step
flush_some k k₁ m out m₁ out₁ r n e q =
    rw (ne_eqb k.base.table.versions 0 n) (subst (λ (x : Control). Does (merged_on x m) r out m₁ out₁) e q)

-- A PAGE of the table came
module _ (k : Control) (m p : List ℕ) (w : Want) (e : w ≡ wanted k.merging.cursor (extent_of k.manifest) (list_of m)) (c : Cursor) (m₁ : List ℕ) where
  abbrev pub Took : Type 0
  Took = (with_cursor k c ≡ (page_merged k m p).turn.control) × (m₁ ≡ (page_merged k m p).memory)

  pub took_list : (q : ℕ) → w ≡ WantsPositions q → c ≡ took_positions k.merging.cursor → m₁ ≡ within 149698 504 (list_with p) m → Took
  unfolding page_merged
  took_list q f a b = rw (← e, f) (ap (with_cursor k) a, b)

  pub took_ring : (q : ℕ) → w ≡ WantsData q → c ≡ took_data k.merging.cursor → m₁ ≡ within 147682 2016 (ring_with k.merging.cursor p) m → Took
  unfolding page_merged
  took_ring q f a b = rw (← e, f) (ap (with_cursor k) a, b)

  pub took_head : w ≡ Head → c ≡ k.merging.cursor → m₁ ≡ m → Took
  unfolding page_merged
  took_head f a b = rw (← e, f) (ap (with_cursor k) a, b)

  pub took_end : w ≡ End → c ≡ k.merging.cursor → m₁ ≡ m → Took
  unfolding page_merged
  took_end f a b = rw (← e, f) (ap (with_cursor k) a, b)
