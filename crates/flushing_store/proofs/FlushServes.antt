-- Flushing serves the house: all that is there is safe when it has ended, and a stop leaves what was safe before, or all.
use Rattle.std.proofs.Common.{◌≡◌, ℕ, suc, ◌+◌, ◌*◌, ◌<◌, ◌≤◌, Bool, true, false, eqb, ◌⊎◌, List, [], ◌∷◌, ◌++◌, length, sym, refl, ap, ◌∙◌, subst, inl, inr, ⊎_elim, append-nil, arith, eqb-true}
use borrow.Author.Tests.{eqb-false}
use Rattle.value.specs.Versions.{pick, Version}
use Rattle.table.specs.Device.{page_at, left, a_page}
use Rattle.value.specs.Sorted.{sort}
use Rattle.table.specs.Layout.{table_stream, table_entries}
use Rattle.table.specs.Sizes.{page_count}
use Rattle.table.specs.Cursor.{wanted}
use Rattle.table.specs.declared.cursor.Want.TheVariants.{Positions as WantsPositions, Data as WantsData}
use Rattle.manifest.specs.Places.{InHalf}
use Rattle.manifest.specs.declared.fields.Manifest.{Manifest}
use Rattle.table.proofs.CursorLaws.{cursor_right}
use Rattle.manifest.proofs.PlaceLaws.{halves_apart}
use Rattle.store.specs.House.{House, flush, refusal, after, shows, core}
use Rattle.store.specs.Promise.{Event, said, page, next, settle, done, Step, World, world}
use Rattle.store.specs.Account.{Next, NextStep, leavings, TellsRight, nothing, StopLeaves, undone, done_already, Ends, finished, most_commands, Serves}
use Rattle.store.specs.Acts.{stepped}
use Rattle.flushing_store.specs.Control.{control_of, put_control, to_phase, ring_of, list_of}
use Rattle.flushing_store.specs.Look.{extent_of}
use Rattle.flushing_store.specs.Target.{next_manifest}
use Rattle.flushing_store.specs.Flush.{merged_on, begun_flush, flushed_step, page_step, last_step, listed_step, emptied, committed_step}
use Rattle.flushing_store.specs.Own.{went_on, paged_by, heard, turned, own}
use Rattle.flushing_store.specs.declared.control.Phase.{Phase}
use Rattle.flushing_store.specs.declared.control.Phase.TheVariants.{Idle, Merging, Closed, Placed, Settled, Listed, Committed}
use Rattle.store.proofs.RunLaws.{next_by}
use Rattle.flushing_store.proofs.StoredLaws.{Stored}
use Rattle.flushing_store.proofs.HeldLaws.{Held}
use Rattle.flushing_store.proofs.OwnAccount.{Durable, Rest}
use Rattle.flushing_store.proofs.StepLaws.{step_is, page_step_is, left_quiet, rest_stops, said_more}
use Rattle.flushing_store.proofs.WholeAccount.{account}
use Rattle.flushing_store.proofs.FlushAccount.{Job, Working, KeepsMemory, Merges, Fetched, positions_came, data_came, Flushes, begun, going, fetched, closed, placed, settled, listed, committed}
use Rattle.flushing_store.proofs.WorkLaws.{working_stops}
use Rattle.flushing_store.proofs.FlushSteps.{merge_step}
use Rattle.flushing_store.proofs.FlushPhases.{job_of, at_rest, nothing_written, begins_so, page_goes, after_closed, after_placed}
use Rattle.flushing_store.proofs.FlushEnds.{all_safe, after_settled, after_listed, after_committed}
use Rattle.flushing_store.proofs.CommitSteps.{commit_is, listed_stops}

known_flush : core flush ≡ true
unfolding core
known_flush = refl

never_refused : (h : House) → refusal h flush ≡ 0
unfolding refusal
never_refused h = refl

shows_nothing : (h : House) → shows h flush ≡ []
unfolding shows
shows_nothing h = refl

leaves_safe : (h : House) → after h flush ≡ all_safe h
unfolding after
leaves_safe h = refl

-- with nothing in memory that is not safe it has ended at once
rest_safe : (n pages : ℕ) (h : House) (w : World) (r : Rest n pages h Idle w) → r.held.fresh ≡ [] → Rest (suc n) pages (all_safe h) Idle w
rest_safe n pages h w r e =
    let o = r.held in
    let all : h.versions ≡ h.safe = o.all_is ∙ ap (λ us. h.safe ++ us) e ∙ append-nil h.safe in
    record {
      list = r.list;
      commits = omega (arith, r.commits);
      quiet = r.quiet;
      stored = subst (λ vs. Stored pages vs r.list w.device.pages) (sym all) r.stored;
      held = record {
        fresh = o.fresh;
        table = o.table;
        all_is = sym (append-nil h.versions) ∙ ap (λ us. h.versions ++ us) (sym e);
        long = o.long;
        base_is = o.base_is;
        manifest_is = o.manifest_is;
        holds = o.holds;
        rises = o.rises;
        last_is = o.last_is;
        early = o.early;
        few = o.few;
        none_low = o.none_low;
        fit = o.fit;
        room = o.room;
        fits_list = o.fits_list;
      };
    }

none_there : (vs : List Version) → length vs ≡ 0 → vs ≡ []
none_there [] e = refl
none_there (v ∷ vs) e = absurd (omega arith)

abbrev StepOn : (n pages : ℕ) → House → World → Event → List (List ℕ) → ℕ → Type 0
StepOn n pages h w ev ts μ = NextStep own (account.Busy n pages h flush) (Ends core account n pages h flush) w ev ts μ

abbrev Goes : (n pages : ℕ) → House → World → List (List ℕ) → ℕ → Step → Type 0
Goes n pages h w ts μ x = Next (account.Busy n pages h flush) (Ends core account n pages h flush) w.device ts x.memory μ x.act

-- a step that goes on, in a phase
next_step_is : (n pages : ℕ) (h : House) (j : Job n pages h) (p : Phase) (m : List ℕ) (ev : Event) → KeepsMemory n pages h j p (control_of m) m → ev ≡ next → own.step m ev ≡ went_on (control_of m) m p
unfolding turned
next_step_is n pages h j p m ev o e = ap (own.step m) e ∙ step_is m next o.long ∙ ap (went_on (control_of m) m) (ap (λ b. b.phase) o.base_is)

begin : (n pages : ℕ) (h : House) (w : World) (μ : ℕ) (r : Rest n pages h Idle w) →
    μ ≡ 10 + (3 * (page_count (length (table_stream (sort h.versions))) + page_count (length (table_entries (sort h.versions))))
    + (page_count (length (table_entries (sort h.safe))) + page_count (length (table_stream (sort h.safe))))) → Goes n pages h w [] μ (flushed_step (control_of w.memory) w.memory)
unfolding flushed_step
begin n pages h w μ r z = go (eqb (control_of w.memory).base.table.versions 0) refl
  where
    o : Held pages h r.list Idle w.memory
    o = r.held

    count : (control_of w.memory).base.table.versions ≡ length r.held.fresh
    count = ap (λ b. b.table.versions) r.held.base_is ∙ r.held.holds.counted

    go : (b : Bool) → eqb (control_of w.memory).base.table.versions 0 ≡ b → Goes n pages h w [] μ (pick b (stepped w.memory done) (merged_on (begun_flush (control_of w.memory)) w.memory))
    go true e =
        finished known_flush (never_refused h) refl (sym (shows_nothing h))
        (subst (λ x. Rest (suc n) pages x Idle w) (sym (leaves_safe h)) (rest_safe n pages h w r (none_there r.held.fresh (sym count ∙ eqb-true _ 0 e))))
    go false e =
        let some : 0 < length r.held.fresh = (let x : (control_of w.memory).base.table.versions ≡ 0 → ⊥ = eqb-false _ 0 e in omega (arith, x, count)) in
        let j = job_of n pages h Idle w r some in
        merge_step n pages h j (begun_flush (control_of w.memory)) w.memory w.device
        (begins_so n pages h j (control_of w.memory) w.memory r.held.long r.held.base_is r.held.manifest_is r.held.holds)
        (at_rest n pages h j w.device refl r.quiet) (nothing_written n pages h j w.device) μ (omega (arith, z))

-- the page that comes is one of the old table's
came : (n pages : ℕ) (h : House) (j : Job n pages h) (w : World) (ev : Event) (μ : ℕ) (o : KeepsMemory n pages h j Merging (control_of w.memory) w.memory) → (g : Merges n pages h j (control_of w.memory).merging w.memory) →
    Fetched n pages h j (control_of w.memory).merging w.memory ev →
    ((q : ℕ) → (wanted (control_of w.memory).merging.cursor (extent_of j.list) (list_of w.memory) ≡ WantsPositions q) ⊎ (wanted (control_of w.memory).merging.cursor (extent_of j.list) (list_of w.memory) ≡ WantsData q) →
    Goes n pages h w [] μ (page_step (control_of w.memory) w.memory (page_at j.before q))) →
    StepOn n pages h w ev [] μ
unfolding paged_by
came n pages h j w ev μ o g f then = by f
  where
    whole : (q : ℕ) → InHalf pages j.list.layout.half q → a_page (page_at j.before q) ≡ true
    whole q x = j.stored.all_pages q (omega (arith, j.stored.sized, x.below, halves_apart.within pages j.list.layout.half j.stored.many j.stored.few))

    step : (q : ℕ) → ev ≡ page (page_at j.before q) → InHalf pages j.list.layout.half q → own.step w.memory ev ≡ page_step (control_of w.memory) w.memory (page_at j.before q)
    step q e x = ap (own.step w.memory) e ∙ page_step_is w.memory (page_at j.before q) Merging o.long (whole q x) (ap (λ b. b.phase) o.base_is)

    by : Fetched n pages h j (control_of w.memory).merging w.memory ev → StepOn n pages h w ev [] μ
    by (positions_came q x e) =
        let (at, lt, on) = cursor_right.positions (extent_of j.list) j.before h.safe (control_of w.memory).merging.cursor (ring_of w.memory) (list_of w.memory) g.table_rest q j.stored.there g.walking x in
        next_by own (account.Busy n pages h flush) (Ends core account n pages h flush) w ev [] μ (page_step (control_of w.memory) w.memory (page_at j.before q))
        (step q e (subst (InHalf pages j.list.layout.half) (sym at) (j.stored.in_place.entries _ lt))) (then q (inl x))
    by (data_came q x e) =
        let (at, lt, on) = cursor_right.«data» (extent_of j.list) j.before h.safe (control_of w.memory).merging.cursor (ring_of w.memory) (list_of w.memory) g.table_rest q j.stored.there g.walking x in
        next_by own (account.Busy n pages h flush) (Ends core account n pages h flush) w ev [] μ (page_step (control_of w.memory) w.memory (page_at j.before q))
        (step q e (subst (InHalf pages j.list.layout.half) (sym at) (j.stored.in_place.stream _ lt))) (then q (inr x))

-- all of it is safe, if the new list is there
safe_then : (n pages : ℕ) (h : House) (w : World) (cs : List ℕ) (f : Manifest) → f.commit ≤ suc n → h.low ≡ 0 → Stored pages h.versions f (leavings w cs) →
    Durable (suc n) pages (after h flush).safe (after h flush).low (leavings w cs)
unfolding after
safe_then n pages h w cs f c l st = record { list = f; commits = c; low = l; stored = st }

pub flush_serves : Serves core own account flush
unfolding turned heard went_on committed_step
flush_serves = record {
  hears = λ n pages h w b g i. (_, begun i refl refl refl);
  works_on = works;
  tells_right = tells;
  stop_leaves = stops;
}
  where
    works : (n pages : ℕ) (h : House) (w : World) (ev : Event) (ts : List (List ℕ)) (μ : ℕ) → n < most_commands → Flushes n pages h w ev ts μ → StepOn n pages h w ev ts μ
    works n pages h w ev ts μ b (begun r e t z) =
        subst (λ x. StepOn n pages h w ev x μ) (sym t)
        (next_by own (account.Busy n pages h flush) (Ends core account n pages h flush) w ev [] μ (flushed_step (control_of w.memory) w.memory)
        (ap (own.step w.memory) e ∙ step_is w.memory (said flush) r.held.long) (begin n pages h w μ r z))
    works n pages h w ev ts μ b (going j o g wo wr e t z) =
        subst (λ x. StepOn n pages h w ev x μ) (sym t)
        (next_by own (account.Busy n pages h flush) (Ends core account n pages h flush) w ev [] μ (merged_on (control_of w.memory) w.memory) (next_step_is n pages h j Merging w.memory ev o e)
        (merge_step n pages h j (control_of w.memory) w.memory w.device record { keeps = o; merges = g } wo wr μ (omega (arith, z))))
    works n pages h w ev ts μ b (fetched j o g wo wr f t z) =
        subst (λ x. StepOn n pages h w ev x μ) (sym t) (came n pages h j w ev μ o g f (λ q x. page_goes n pages h j (control_of w.memory) w.memory record { keeps = o; merges = g } w.device ev μ wo wr z q x))
    works n pages h w ev ts μ b (closed j o la wo en e t z) =
        subst (λ x. StepOn n pages h w ev x μ) (sym t)
        (next_by own (account.Busy n pages h flush) (Ends core account n pages h flush) w ev [] μ (last_step (control_of w.memory) w.memory) (next_step_is n pages h j Closed w.memory ev o e)
        (after_closed n pages h j b w.memory w.device o la wo en μ z))
    works n pages h w ev ts μ b (placed j o wo en e t z) =
        subst (λ x. StepOn n pages h w ev x μ) (sym t)
        (next_by own (account.Busy n pages h flush) (Ends core account n pages h flush) w ev [] μ (stepped (put_control w.memory (to_phase (control_of w.memory) Settled)) settle) (next_step_is n pages h j Placed w.memory ev o e)
        (after_placed n pages h j b w.memory w.device o wo en μ z))
    works n pages h w ev ts μ b (settled j o wo q en e t z) =
        subst (λ x. StepOn n pages h w ev x μ) (sym t)
        (next_by own (account.Busy n pages h flush) (Ends core account n pages h flush) w ev [] μ (listed_step (control_of w.memory) w.memory) (next_step_is n pages h j Settled w.memory ev o e)
        (after_settled n pages h j b w.memory w.device o wo q en μ z))
    works n pages h w ev ts μ b (listed j o ps wo en d e t z) =
        subst (λ x. StepOn n pages h w ev x μ) (sym t)
        (next_by own (account.Busy n pages h flush) (Ends core account n pages h flush) w ev [] μ (stepped (put_control w.memory (to_phase (control_of w.memory) Committed)) settle) (next_step_is n pages h j Listed w.memory ev o e)
        (after_listed n pages h j b w.memory w.device o ps wo en d μ z))
    works n pages h w ev ts μ b (committed j o q st le e t z) =
        subst (λ x. StepOn n pages h w ev x μ) (sym t)
        (next_by own (account.Busy n pages h flush) (Ends core account n pages h flush) w ev [] μ (stepped (put_control w.memory (emptied (control_of w.memory))) done) (next_step_is n pages h j Committed w.memory ev o e)
        (finished known_flush (never_refused h) refl (sym (shows_nothing h))
        (subst (λ x. Rest (suc n) pages x Idle (world w.device (put_control w.memory (emptied (control_of w.memory))))) (sym (leaves_safe h)) (after_committed n pages h j b w.memory w.device o q st le))))

    tells : (n pages : ℕ) (h : House) (w : World) (ev : Event) (ts : List (List ℕ)) (μ : ℕ) → n < most_commands → Flushes n pages h w ev ts μ → TellsRight core h flush ts
    tells n pages h w ev ts μ b (begun r e t z) = nothing t
    tells n pages h w ev ts μ b (going j o g wo wr e t z) = nothing t
    tells n pages h w ev ts μ b (fetched j o g wo wr f t z) = nothing t
    tells n pages h w ev ts μ b (closed j o la wo en e t z) = nothing t
    tells n pages h w ev ts μ b (placed j o wo en e t z) = nothing t
    tells n pages h w ev ts μ b (settled j o wo q en e t z) = nothing t
    tells n pages h w ev ts μ b (listed j o ps wo en d e t z) = nothing t
    tells n pages h w ev ts μ b (committed j o q st le e t z) = nothing t

    -- until the new list waits, what was safe stays
    old : (n pages : ℕ) (h : House) (j : Job n pages h) (w : World) → Working n pages h j w.device → (cs : List ℕ) → StopLeaves core account n pages h flush (leavings w cs)
    old n pages h j w wo cs = undone record { list = j.list; commits = omega (arith, j.commits); low = j.none_low; stored = working_stops n pages h j w.device wo cs }

    stops : (n pages : ℕ) (h : House) (w : World) (ev : Event) (ts : List (List ℕ)) (μ : ℕ) → n < most_commands → Flushes n pages h w ev ts μ → (cs : List ℕ) → StopLeaves core account n pages h flush (leavings w cs)
    stops n pages h w ev ts μ b (begun r e t z) cs = undone (rest_stops (suc n) pages h Idle w (said_more n pages h Idle w r) cs)
    stops n pages h w ev ts μ b (going j o g wo wr e t z) cs = old n pages h j w wo cs
    stops n pages h w ev ts μ b (fetched j o g wo wr f t z) cs = old n pages h j w wo cs
    stops n pages h w ev ts μ b (closed j o la wo en e t z) cs = old n pages h j w wo cs
    stops n pages h w ev ts μ b (placed j o wo en e t z) cs = old n pages h j w wo cs
    stops n pages h w ev ts μ b (settled j o wo q en e t z) cs = old n pages h j w wo cs
    stops n pages h w ev ts μ b (listed j o ps wo en d e t z) cs =
        ⊎_elim
        (λ st. undone (subst (λ x. Durable (suc n) pages h.safe h.low (left x.pages x.queue cs)) (sym d) record { list = j.list; commits = omega (arith, j.commits); low = j.none_low; stored = st }))
        (λ st. done_already known_flush (never_refused h) (safe_then n pages h w cs (next_manifest (control_of w.memory)) (omega (arith, commit_is n pages h j b Listed (control_of w.memory) w.memory o, j.commits)) j.none_low
        (subst (λ x. Stored pages h.versions (next_manifest (control_of w.memory)) (left x.pages x.queue cs)) (sym d) st)))
        (listed_stops n pages h j b Listed (control_of w.memory) w.memory o en.counted en.datas ps cs wo en)
    stops n pages h w ev ts μ b (committed j o q st le e t z) cs =
        done_already known_flush (never_refused h) (safe_then n pages h w cs (next_manifest (control_of w.memory)) le j.none_low (subst (Stored pages h.versions (next_manifest (control_of w.memory))) (sym (left_quiet w cs q)) st))
