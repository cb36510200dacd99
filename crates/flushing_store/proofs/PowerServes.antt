-- Power comes: blank pages hold nothing, the two lists are read, the one that holds is chosen, and memory holds what the pages do.
use Rattle.std.proofs.Common.{◌≡◌, ℕ, ◌<◌, ◌≤◌, Bool, true, false, List, [], length, sym, refl, ap, ◌∙◌, subst, append-nil, arith}
use Rattle.value.specs.Versions.{every, Version}
use Rattle.value.specs.Rising.{last_moment}
use Rattle.memtable.specs.Memtable.{none}
use Rattle.memtable.proofs.AnswerLaws.{empty_right}
use Rattle.table.specs.Device.{Page, page_at}
use Rattle.manifest.specs.Manifest.{manifest_in, is_whole, empty_manifest}
use Rattle.manifest.specs.Commit.{found_in, later_of, chosen}
use Rattle.manifest.specs.declared.fields.Manifest.{Manifest}
use Rattle.manifest.proofs.CommitLaws.{choice_right}
use Rattle.manifest.proofs.PageLaws.{any_fits}
use Rattle.store.specs.Promise.{Event, on, page, done, World, world}
use Rattle.store.specs.Account.{rested, Fresh, WakesUp, WakesOn, WakingStops, IdleStops}
use Rattle.store.specs.Acts.{stepped}
use Rattle.flushing_store.specs.Control.{memory_words, base, control, control_of, put_control}
use Rattle.store.specs.Regions.{index_of, arena_of}
use Rattle.flushing_store.specs.Power.{powered, first_phase, first_listed, woken, second_listed}
use Rattle.flushing_store.specs.Own.{paged_by, turned, own}
use Rattle.flushing_store.specs.declared.control.Phase.{Phase}
use Rattle.flushing_store.specs.declared.control.Phase.TheVariants.{Idle, FirstList}
use Rattle.flushing_store.specs.declared.control.Control.{Control}
use Rattle.flushing_store.proofs.RegionLaws.{length_put, SmallBase, base_put, manifest_put}
use Rattle.flushing_store.proofs.StoredLaws.{blank_stored}
use Rattle.flushing_store.proofs.OwnAccount.{Durable, Rest, Comes, starts, first, second}
use Rattle.flushing_store.proofs.WholeAccount.{account}
use Rattle.store.proofs.RunLaws.{wake_by}
use Rattle.flushing_store.proofs.StepLaws.{step_is, start_long, page_step_is, read_quiet, left_quiet, rest_stops}

pub fresh : Fresh account
fresh pages lo hi = record { list = empty_manifest; commits = omega arith; low = refl; stored = blank_stored pages lo hi }

pub wakes_up : WakesUp own account
wakes_up n pages vs t ps b d = (2, starts d refl start_long (ap on d.stored.sized) refl)

-- before anything is known but the number of pages
young : (p : Phase) (pages last : ℕ) → pages ≤ 1048576 → last < 9223372036854775808 → SmallBase (base p pages last none)
young p pages last h l = record { pages = omega arith; last = omega arith; versions = omega arith; used = omega arith; weight = omega arith }

module _ (n pages : ℕ) (vs : List Version) (t : ℕ) (w : World) (d : Durable n pages vs t w.device.pages) (q : w.device.queue ≡ []) (l : length w.memory ≡ memory_words) where
  abbrev k : Control
  k = control_of w.memory

  -- page 0 is asked for
  abbrev k₁ : Control
  k₁ = control (base FirstList pages 0 none) k.manifest k.lookup k.merging

  comes_first : Comes n pages vs t (world w.device (put_control w.memory k₁)) (page (page_at w.device.pages 0)) 1
  comes_first = first d q (length_put w.memory k₁ l) (base_put w.memory k₁ l (young FirstList pages 0 d.stored.few (omega arith))) refl refl

  -- page 1 is
  module _ (b : k.base ≡ base FirstList pages 0 none) where
    abbrev p₀ : Page
    p₀ = page_at w.device.pages 0

    abbrev k₂ : Control
    k₂ = control (base (first_phase (is_whole p₀)) k.base.pages k.base.last k.base.table) (manifest_in p₀) k.lookup k.merging

    base_is : k₂.base ≡ base (first_phase (is_whole p₀)) pages 0 none
    base_is = ap (λ x. base (first_phase (is_whole p₀)) x.pages x.last x.table) b

    comes_second : Comes n pages vs t (world w.device (put_control w.memory k₂)) (page (page_at w.device.pages 1)) 0
    comes_second =
        second d q (length_put w.memory k₂ l)
        (base_put w.memory k₂ l (subst SmallBase (sym base_is) (young (first_phase (is_whole p₀)) pages 0 d.stored.few (omega arith))) ∙ base_is)
        (manifest_put w.memory k₂ l (any_fits p₀)) refl refl

  -- the list that holds is there
  module _ (whole : Bool) (b : k.base ≡ base (first_phase whole) pages 0 none) where
    abbrev f : Manifest
    f = d.list

    abbrev k₃ : Control
    k₃ = woken k f

    last_base : k₃.base ≡ base Idle pages (last_moment vs) none
    last_base = λ i. base Idle (b i).pages (d.stored.last_is i) (b i).table

    awake : Rest n pages (rested vs t) Idle (world w.device (put_control w.memory k₃))
    unfolding every
    awake = record {
      list = f;
      commits = d.commits;
      quiet = q;
      stored = d.stored;
      held = record {
        fresh = [];
        table = none;
        all_is = sym (append-nil vs);
        long = length_put w.memory k₃ l;
        base_is = base_put w.memory k₃ l (subst SmallBase (sym last_base) (young Idle pages (last_moment vs) d.stored.few d.stored.early)) ∙ last_base;
        manifest_is = manifest_put w.memory k₃ l d.stored.fits_list;
        holds = empty_right (index_of (put_control w.memory k₃)) (arena_of (put_control w.memory k₃));
        rises = d.stored.there.lies.rises;
        last_is = refl;
        early = d.stored.early;
        few = d.stored.few;
        none_low = d.low;
        fit = refl;
        room = d.stored.room;
        fits_list = d.stored.fits_list;
      };
    }

-- the second page, in the phase that the first one left
second_is : (k : Control) (m p : List ℕ) (b : Bool) → paged_by k m p (first_phase b) ≡ second_listed k m b p
unfolding paged_by
second_is k m p true = refl
second_is k m p false = refl

chosen_is : (k : Control) (f : Manifest) (ps : List Page) → k.manifest ≡ manifest_in (page_at ps 0) → chosen ps ≡ f → later_of record { whole = is_whole (page_at ps 0); manifest = k.manifest } (found_in (page_at ps 1)) ≡ f
chosen_is k f ps e c = (λ i. later_of record { whole = is_whole (page_at ps 0); manifest = e i } (found_in (page_at ps 1))) ∙ c

second_does : (k : Control) (m : List ℕ) (f : Manifest) (ps : List Page) → k.manifest ≡ manifest_in (page_at ps 0) → chosen ps ≡ f →
    second_listed k m (is_whole (page_at ps 0)) (page_at ps 1) ≡ stepped (put_control m (woken k f)) done
unfolding second_listed
second_does k m f ps e c = ap (λ x. stepped (put_control m (woken k x)) done) (chosen_is k f ps e c)

first_is : (k : Control) (m p : List ℕ) → paged_by k m p FirstList ≡ first_listed k m p
unfolding paged_by
first_is k m p = refl

powers : (k : Control) (m : List ℕ) (pages : ℕ) → turned k m (on pages) ≡ powered k m pages
unfolding turned
powers k m pages = refl

pub wakes_on : WakesOn own account
unfolding powered first_listed
wakes_on n pages vs t w ev μ b (starts d q l e z) =
    wake_by own account n pages vs t w ev μ (powered (control_of w.memory) w.memory pages)
    (ap (own.step w.memory) e ∙ step_is w.memory (on pages) l ∙ powers (control_of w.memory) w.memory pages)
    (1, omega arith, subst (λ p. Comes n pages vs t (world w.device (powered (control_of w.memory) w.memory pages).memory) (page p) 1) (sym (read_quiet w.device 0 q)) (comes_first n pages vs t w d q l))
wakes_on n pages vs t w ev μ b (first d q l a e z) =
    wake_by own account n pages vs t w ev μ (first_listed (control_of w.memory) w.memory (page_at w.device.pages 0))
    (ap (own.step w.memory) e ∙ page_step_is w.memory (page_at w.device.pages 0) FirstList l (d.stored.all_pages 0 (omega (arith, d.stored.sized, d.stored.many))) (ap (λ x. x.phase) a)
    ∙ first_is (control_of w.memory) w.memory (page_at w.device.pages 0)) (
      0,
      omega arith,
      subst (λ p. Comes n pages vs t (world w.device (first_listed (control_of w.memory) w.memory (page_at w.device.pages 0)).memory) (page p) 0) (sym (read_quiet w.device 1 q))
          (comes_second n pages vs t w d q l a),
    )
wakes_on n pages vs t w ev μ b (second d q l a f e z) =
    wake_by own account n pages vs t w ev μ (stepped (put_control w.memory (woken (control_of w.memory) d.list)) done)
    (ap (own.step w.memory) e
    ∙ page_step_is w.memory (page_at w.device.pages 1) (first_phase (is_whole (page_at w.device.pages 0))) l (d.stored.all_pages 1 (omega (arith, d.stored.sized, d.stored.many))) (ap (λ x. x.phase) a)
    ∙ second_is (control_of w.memory) w.memory (page_at w.device.pages 1) (is_whole (page_at w.device.pages 0))
    ∙ second_does (control_of w.memory) w.memory d.list w.device.pages f (choice_right d.list w.device.pages d.stored.committed))
    (awake n pages vs t w d q l (is_whole (page_at w.device.pages 0)) a)

comes_stop : (n pages : ℕ) (vs : List Version) (t : ℕ) (w : World) (ev : Event) (μ : ℕ) → Comes n pages vs t w ev μ → (Durable n pages vs t w.device.pages) × (w.device.queue ≡ [])
comes_stop n pages vs t w ev μ (starts d q l e z) = (d, q)
comes_stop n pages vs t w ev μ (first d q l a e z) = (d, q)
comes_stop n pages vs t w ev μ (second d q l a f e z) = (d, q)

pub waking_stops : WakingStops account
waking_stops n pages vs t w ev μ b i cs = let (d, q) = comes_stop n pages vs t w ev μ i in subst (λ ps. Durable n pages vs t ps) (sym (left_quiet w cs q)) d

pub idle_stops : IdleStops account
idle_stops n pages h w b i cs = rest_stops n pages h Idle w i cs
