-- Getting: how a step that is told to get ends.
use Rattle.std.proofs.Common.{◌≡◌, ℕ, ◌<◌, ◌≤◌, true, false, ltb, List, [], ◌++◌, length, drop, Some, None, sym, refl, ap, ◌∙◌, subst, le-ltb, lt-ltb}
use Rattle.value.specs.Versions.{version}
use Rattle.value.specs.Encoding.{key_at, value_at}
use Rattle.value.specs.declared.version.Place.{Place}
use Rattle.memtable.specs.Arena.{gone_at, moment_at, key_at as key_in}
use Rattle.table.specs.Row.{octets}
use Rattle.table.specs.Lookup.{begun, with_page, loaded}
use Rattle.table.specs.declared.lookup.Lookup.{Lookup}
use Rattle.store.specs.House.{a_key}
use Rattle.flushing_store.specs.Control.{put_control, to_phase, stage_region, ring_of}
use Rattle.store.specs.Regions.{arena_of, sought}
use Rattle.flushing_store.specs.Stage.{staged}
use Rattle.flushing_store.specs.Look.{extent_of, looked, page_in, asked}
use Rattle.store.specs.Shown.{row_at, row_of}
use Rattle.flushing_store.specs.Get.{got_below, told_of, got, shown_by, got_by, got_on}
use Rattle.store.specs.declared.told.Told.{Told}
use Rattle.store.specs.declared.told.Told.TheVariants.{Tells, Done}
use Rattle.flushing_store.specs.declared.look.Looked.{Looked}
use Rattle.flushing_store.specs.declared.look.Looked.TheVariants.{On, Found, Missing}
use Rattle.flushing_store.specs.declared.control.Phase.TheVariants.{Idle, Shown, Getting}
use Rattle.flushing_store.specs.declared.control.Control.{Control}
use Rattle.store.specs.Acts.{ActTold, Does, Quiet}

module _ (k : Control) (m key : List ℕ) (s : ℕ) where
  pub no_key : a_key key ≡ false → Quiet (got_below k m key s) Done m
  unfolding got_below ActTold
  no_key e = rw e (refl, λ out. (refl, refl))

  pub no_block : a_key key ≡ true → begun (extent_of k.manifest) ≡ None → Quiet (got_below k m key s) Done m
  unfolding got_below ActTold
  no_block e f = rw (e, f) (refl, λ out. (refl, refl))

  pub looks_below : (l : Lookup) (m₀ : List ℕ) (r : Told) (m₁ : List ℕ) → a_key key ≡ true → begun (extent_of k.manifest) ≡ Some l → m₀ ≡ staged (version key s false []) m →
      Quiet (asked (to_phase k Getting) m₀ l) r m₁ → Quiet (got_below k m key s) r m₁
  unfolding got_below
  looks_below l m₀ r m₁ e f g q = rw (e, f, ← g) q

  pub nothing_found : (out : List ℕ) (r : Told) (m₁ : List ℕ) → sought k.base.table m key s ≡ None → Quiet (got_below k m key s) r m₁ → Does (got k m key s) r out m₁ out
  unfolding got told_of
  nothing_found out r m₁ e q = rw e (q.0, q.1 out)

  pub gone_found : (out : List ℕ) (p : ℕ) → sought k.base.table m key s ≡ Some p → gone_at (arena_of m) p ≡ true → Does (got k m key s) Done out m out
  unfolding got told_of ActTold
  gone_found out p e g = rw (e, g) (refl, (refl, refl))

  pub value_found : (out m₁ out₁ : List ℕ) (p n : ℕ) → sought k.base.table m key s ≡ Some p → gone_at (arena_of m) p ≡ false → m₁ ≡ put_control m (to_phase k Shown) →
      n ≡ length (row_at (arena_of m) p) → out₁ ≡ row_at (arena_of m) p ++ drop (length (row_at (arena_of m) p)) out → Does (got k m key s) (Tells n) out m₁ out₁
  unfolding got told_of ActTold
  value_found out m₁ out₁ p n e g q l r = rw (e, g) (q, (ap Tells l, r))

-- the pages that came
abbrev pub looked_for : Control → List ℕ → Lookup → Looked
looked_for k m l = looked l (extent_of k.manifest) (octets 2016 (ring_of m)) (key_in (stage_region m) 0) (moment_at (stage_region m) 0)

abbrev pub shown_row : List ℕ → Lookup → Place → List ℕ
shown_row m l p = row_of (key_at (loaded l (octets 2016 (ring_of m))) p) (value_at (loaded l (octets 2016 (ring_of m))) p)

module _ (k : Control) (m : List ℕ) (l : Lookup) (out m₁ : List ℕ) where
  pub get_on : (next : Lookup) (r : Told) → looked_for k m l ≡ On next → Quiet (asked k m next) r m₁ → Does (got_by k m l) r out m₁ out
  unfolding got_by shown_by
  get_on next r e q = rw e (q.0, q.1 out)

  pub get_missing : looked_for k m l ≡ Missing → m₁ ≡ put_control m (to_phase k Idle) → Does (got_by k m l) Done out m₁ out
  unfolding got_by shown_by ActTold
  get_missing e q = rw e (q, (refl, refl))

  pub get_gone : (p : Place) → looked_for k m l ≡ Found p → p.gone ≡ true → m₁ ≡ put_control m (to_phase k Idle) → Does (got_by k m l) Done out m₁ out
  unfolding got_by shown_by ActTold
  get_gone p e g q = rw (e, g) (q, (refl, refl))

  pub get_shown : (p : Place) (n : ℕ) (out₁ : List ℕ) → looked_for k m l ≡ Found p → p.gone ≡ false → m₁ ≡ put_control m (to_phase k Shown) →
      n ≡ length (shown_row m l p) → out₁ ≡ shown_row m l p ++ drop (length (shown_row m l p)) out → Does (got_by k m l) (Tells n) out m₁ out₁
  unfolding got_by shown_by ActTold
  get_shown p n out₁ e g q f r = rw (e, g) (q, (ap Tells f, r))

module _ (k : Control) (m p out : List ℕ) (r : Told) (m₀ m₁ out₁ : List ℕ) (l : Lookup) (e : l ≡ with_page k.lookup) (f : m₀ ≡ page_in k.lookup p m) where
  pub get_asks : l.load.got < l.load.span.pages → Quiet (asked k m₀ l) r m₁ → Does (got_on k m p) r out m₁ out
  unfolding got_on
  get_asks h q =
      let t : ltb (with_page k.lookup).load.got k.lookup.load.span.pages ≡ true = ap (λ (x : Lookup). ltb x.load.got x.load.span.pages) (sym e) ∙ lt-ltb l.load.got l.load.span.pages h in
      let g = subst (λ (x : Lookup). Quiet (asked k (page_in k.lookup p m) x) r m₁) e (subst (λ (x : List ℕ). Quiet (asked k x l) r m₁) f q) in
      rw t (g.0, g.1 out)

  pub get_ends : l.load.span.pages ≤ l.load.got → Does (got_by k m₀ l) r out m₁ out₁ → Does (got_on k m p) r out m₁ out₁
  unfolding got_on
  get_ends h q =
      let t : ltb (with_page k.lookup).load.got k.lookup.load.span.pages ≡ false = ap (λ (x : Lookup). ltb x.load.got x.load.span.pages) (sym e) ∙ le-ltb l.load.got l.load.span.pages h in
      rw t (subst (λ (x : Lookup). Does (got_by k (page_in k.lookup p m) x) r out m₁ out₁) e (subst (λ (x : List ℕ). Does (got_by k x l) r out m₁ out₁) f q))
