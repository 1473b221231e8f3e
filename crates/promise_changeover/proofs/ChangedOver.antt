-- A call that takes a link out, over every run of calls from every configuration: what is retired, dropped and told, and what leaves for which link,
-- once, in order.
-- Assumes nothing.
use mathlib.Core.Path.{◌≡◌, refl, sym, ap, ap₂, ◌∙◌}
use mathlib.Core.Bool.{true, ◌&&◌}
use mathlib.Core.List.{List, [], ◌∷◌, ◌++◌, map, append_assoc, append-nil, map-map}
use Prim.Native.Nat.{ℕ, zero, suc, ◌+◌, ◌*◌, ◌≤◌, ◌<◌}
use native.Mathlib.Omega.{arith}
use lib.Dec.{eqb}
use lib.ListN.{length, get_or, take, drop, length-append, length-map, length-drop, take-append-drop}
use lib.Seq.{drop-drop, length-take-le}
use borrow.Author.Tests.{ne_eqb}
use Rattle.plan.specs.declared.data.Plan.{Plan}
use Rattle.plan.proofs.Split.{split, alike}
use Rattle.area_links.specs.LinkRecords.{record_at}
use Rattle.queue_rings.specs.Ring.{count_of, queue}
use Rattle.queue_rings.proofs.Queues.{queue_length}
use Rattle.queue_store.specs.Sound.{sum, tally, is}
use Rattle.queue_store.proofs.Sums.{sum_same}
use Rattle.route_round.proofs.Lists.{map_drop, map_take}
use Rattle.replies.specs.Areas.{Areas}
use Rattle.queue_heads.specs.Head.{both}
use Rattle.queue_joining.specs.Queue.{next_of}
use Rattle.queue_moving.specs.Move.{point_of, sls_of, need_of, goes_to}
use Rattle.changeover_ending.specs.End.{links_out}
use Rattle.plan_configuration.specs.Configure.{configured}
use Rattle.node.specs.View.{view_of}
use Rattle.node.specs.Memory.{Memory, Result}
use Rattle.promise_runs.specs.Run.{Call, lent, called, ran, fresh, Whole}
use Rattle.promise_runs.proofs.Carrying.{way_carries}
use Rattle.promise_runs.proofs.Outcomes.{by_test}
use Rattle.promise_runs.proofs.KeepsCalls.{RegularAt}
use Rattle.promise_runs.proofs.Reached.{configured_regular}
use Rattle.promise_ledger.specs.Held.{arrival_of, numbers, put_on}
use Rattle.promise_ledger.specs.Reported.{Report, report, reports_in}
use Rattle.promise_leaving.specs.Going.{stranded, rest, dropped_part, drops_for}
use Rattle.promise_leaving.proofs.Ended.{now_out}
use Rattle.promise_accounts.specs.Gone.{queue_of, retired_by, next_in, told_by}
use Rattle.promise_accounts.specs.Ending.{Ending, answered_on, Exactly, Starts}
use Rattle.promise_accounts.proofs.OnePlace.{tally_on, everything_in_one_place}
use Rattle.promise_accounts.proofs.Endings.{ending_exactly}
use Rattle.promise_accounts.proofs.Starting.{ending_starts}
use Rattle.promise_farend.proofs.Once.{queue_held}
use Rattle.promise_farend.proofs.PutOn.{put_behind}
use Rattle.promise_farend.specs.History.{result_of}
use Rattle.promise_changeover.specs.ChangedOver.{found, ending_by, dropping, leaving, slots_then, goes_by, moved_to, unrouted}
use Rattle.promise_changeover.specs.ChangedOver.{joining, drops_with, changes_by, ChangedOver}
use Rattle.promise_changeover.proofs.Sharing.{going_nowhere, shared_out}
use Rattle.promise_changeover.proofs.Asking.{Asks, ending_asks}

-- a list cut in three
pub in_three : (first next : ℕ) (l : List ℕ) → l ≡ take first l ++ (take next (drop first l) ++ drop (first + next) l)
in_three first next l =
    sym (take-append-drop first l)
    ∙ ap (λ (r : List ℕ). take first l ++ r)
    (sym (take-append-drop next (drop first l)) ∙ ap (λ (r : List ℕ). take next (drop first l) ++ r) (drop-drop next first l))

-- so many records are so many
reports_many : (area : List ℕ) (many : ℕ) → length (reports_in area many) ≡ many
unfolding reports_in
reports_many area zero = refl
reports_many area (suc more) =
    let last : List Report = report (get_or area (2 * more) 0) (get_or area (2 * more + 1) 0) ∷ [] in
    omega (arith, length-append (reports_in area more) last, reports_many area more)

-- with a call more, a run is the call behind it
pub ran_on : (plan : Plan) (calls : List Call) (call : Call) (m : Memory) → ran plan (calls ++ (call ∷ [])) m ≡ called plan call (ran plan calls m)
unfolding ran
ran_on plan [] call m = refl
ran_on plan (one ∷ later) call m = ran_on plan later call (called plan one m)

-- a queue has as many numbers as slots
queue_many : (a : Areas) (link : ℕ) → length (queue_of a link) ≡ count_of a.spans link
unfolding numbers
queue_many a link = length-map (queue a.spans a.rings link) (arrival_of a.rows) ∙ queue_length a.spans a.rings link

-- what follows from how the call ends, and from what stands before it
module _
    (plan : Plan)
    (a : Areas)
    (ending : Ending)
    (retired : List ℕ)
    (r : Result)
    (asks : Asks a ending retired)
    (starts : Starts a ending)
    (exact : Exactly plan ending r.after.areas r.answer.reports)
    (once_before : (link number : ℕ) → link < 32 → tally (is number) (queue_of a link) ≤ 1)
    (once_after : (link number : ℕ) → link < 32 → tally (is number) (queue_of r.after.areas link) ≤ 1) where
  abbrev from : Areas
  from = ending.from

  abbrev b : Areas
  b = r.after.areas

  abbrev link : ℕ
  link = ending.link

  -- what is known of the held messages stays, so a queue after the call has the numbers of before
  same_rows : (ring : ℕ) → queue_of b ring ≡ numbers from.rows (both b.spans b.rings) ring
  same_rows ring = ap (λ (rows : List ℕ). numbers rows (both b.spans b.rings) ring) exact.rows_same

  -- the slots' numbers are the link's queue as it was
  slots_are : map (arrival_of from.rows) (slots_then ending) ≡ queue_of a link
  unfolding numbers
  slots_are = starts.own

  joined_is : (other : ℕ) → other < 32 → (other ≡ link → ⊥) → queue_of b other ≡ queue_of a other ++ joining plan a ending other
  joined_is other h apart =
      same_rows other
      ∙ exact.ended.cleared.joined other h apart
      ∙ ap (λ (l : List ℕ). l ++ moved_to plan ending other) (starts.others other (omega arith))
      ∙ append_assoc (queue_of a other) (answered_on a ending other) (moved_to plan ending other)

  apart_is : queue_of b 32 ≡ queue_of a 32
  apart_is =
      same_rows 32
      ∙ exact.ended.cleared.apart
      ∙ starts.others 32 (omega arith)
      ∙ ap (λ (l : List ℕ). queue_of a 32 ++ l) starts.never_apart
      ∙ append-nil (queue_of a 32)

  -- the drops by their numbers
  dropped_numbers : map (arrival_of from.rows) (dropped_part ending.parts (slots_then ending)) ≡ dropping a ending
  dropped_numbers =
      map_take (arrival_of from.rows) ending.parts.dropped (drop ending.parts.retired (slots_then ending))
      ∙ ap (take ending.parts.dropped) (map_drop (arrival_of from.rows) ending.parts.retired (slots_then ending))
      ∙ ap (λ (l : List ℕ). take ending.parts.dropped (drop ending.parts.retired l)) slots_are

  left_numbers : map (arrival_of from.rows) (rest ending.parts (slots_then ending)) ≡ leaving a ending
  left_numbers =
      map_drop (arrival_of from.rows) (ending.parts.retired + ending.parts.dropped) (slots_then ending)
      ∙ ap (drop (ending.parts.retired + ending.parts.dropped)) slots_are

  by_number : (reason : ℕ) (slots : List ℕ) → drops_for reason from.rows slots ≡ drops_with reason (map (arrival_of from.rows) slots)
  by_number reason slots = sym (map-map (report reason) (arrival_of from.rows) slots)

  told_is : told_by r ≡ (drops_with 2 (dropping a ending) ++ drops_with 1 (unrouted plan ending)) ++ changes_by plan ending
  unfolding reports_in
  told_is =
      exact.ended.told
      ∙ ap (λ (l : List Report). l ++ changes_by plan ending)
      (exact.ended.cleared.told
      ∙ ap₂ (λ (first next : List Report). first ++ next)
      (by_number 2 (dropped_part ending.parts (slots_then ending)) ∙ ap (drops_with 2) dropped_numbers)
      (by_number 1 (stranded (goes_by plan ending) (rest ending.parts (slots_then ending)))))

  -- nothing goes to the link that is out
  goes_elsewhere : (slot : ℕ) → goes_by plan ending slot ≡ link → ⊥
  unfolding goes_to
  goes_elsewhere slot same =
      let out : List ℕ = links_out from.links link in
      let rows : List ℕ = from.rows in
      way_carries plan out from.marks (need_of slot) (point_of rows slot) (sls_of rows slot) (omega (arith, same, asks.within))
      (ap (λ (l : ℕ). (record_at out l).state) same ∙ now_out from.links link asks.within)

  -- what a host reads as put on a link's queue is, but for the answer, what moved there
  put_is : (other : ℕ) → other < 32 → (other ≡ link → ⊥) → put_on (queue_of a other) (queue_of b other) ≡ joining plan a ending other
  put_is other h apart =
      ap (λ (l : List ℕ). put_on (queue_of a other) l) (joined_is other h apart)
      ∙ put_behind (queue_of a other) (joining plan a ending other)
      (λ number. omega (arith, once_after other number h, ap (tally (is number)) (joined_is other h apart)))

  emptied_is : queue_of b link ≡ []
  emptied_is = same_rows link ∙ exact.ended.cleared.emptied

  none_back_is : moved_to plan ending link ≡ []
  none_back_is = ap (map (arrival_of from.rows)) (going_nowhere (goes_by plan ending) link goes_elsewhere (rest ending.parts (slots_then ending)))

  unanswered : (number : ℕ) → (next_of a.arrivals ≡ number → ⊥) → (other : ℕ) → tally (is number) (answered_on a ending other) ≡ 0
  unfolding answered_on tally
  unanswered number differs other =
      by_test (λ (l : List ℕ). tally (is number) l ≡ 0) (ending.answers && eqb other ending.path) (next_of a.arrivals ∷ []) []
      (λ e. simp (ne_eqb (next_of a.arrivals) number differs))
      (λ e. refl)

  put_tally : (number : ℕ) → (next_of a.arrivals ≡ number → ⊥) → (other : ℕ) → other < 32
      → tally (is number) (moved_to plan ending other) ≡ tally (is number) (put_on (queue_of a other) (queue_of b other))
  unfolding put_on
  put_tally number differs other h =
      alike other link
      (λ same.
      let here : moved_to plan ending other ≡ [] = ap (moved_to plan ending) same ∙ none_back_is in
      let gone : put_on (queue_of a other) (queue_of b other) ≡ [] = ap (put_on (queue_of a other)) (ap (queue_of b) same ∙ emptied_is) in
      ap (tally (is number)) (here ∙ sym gone))
      (λ apart.
      omega (
        arith,
        ap (tally (is number)) (put_is other h apart),
        tally_on (is number) (answered_on a ending other) (moved_to plan ending other),
        unanswered number differs other,
      ))

  once_is : (number : ℕ)
      → tally (is number) (leaving a ending)
      ≡ sum (λ other. tally (is number) (moved_to plan ending other)) 32 + tally (is number) (unrouted plan ending)
  once_is number =
      ap (tally (is number)) (sym left_numbers)
      ∙ shared_out (goes_by plan ending) (is number) (arrival_of from.rows) (rest ending.parts (slots_then ending))

  pub call_changes : ChangedOver plan a ending retired r
  call_changes =
      let many = queue_many a link in
      let parts = ending.parts in
      record {
        in_three = in_three parts.retired parts.dropped (queue_of a link);
        retired_are = asks.retires;
        retired_many = length-take-le parts.retired (queue_of a link) (omega (arith, many, asks.fits));
        dropped_many =
            length-take-le parts.dropped (drop parts.retired (queue_of a link))
            (omega (arith, many, asks.fits, length-drop parts.retired (queue_of a link)));
        leaving_are = sym left_numbers;
        goes_out = exact.goes_out;
        emptied = emptied_is;
        joined = joined_is;
        apart = apart_is;
        put = put_is;
        told = told_is;
        counted = reports_many b.reports r.answer.reports;
        each_once = once_is;
        read_once =
            λ number differs.
            once_is number
            ∙ ap (λ (n : ℕ). n + tally (is number) (unrouted plan ending))
            (sum_same (λ other. tally (is number) (moved_to plan ending other))
            (λ other. tally (is number) (put_on (queue_of a other) (queue_of b other)))
            32
            (put_tally number differs));
        not_twice = λ number. once_before link number asks.within;
        none_back = none_back_is;
      }

module _ (m : Memory) (whole : Whole m) (one : length m.areas.arrivals ≡ 1) (text : List ℕ) where
  abbrev plan : Plan
  plan = (configured text).plan

  -- no number is twice in a queue, after any calls
  queue_once : (calls : List Call) (link number : ℕ) → link < 32 → tally (is number) (queue_of (ran plan calls (fresh m)).areas link) ≤ 1
  queue_once calls link number h =
      let after : Memory = ran plan calls (fresh m) in
      let all = everything_in_one_place m whole one text calls in
      let queued = queue_held (is number) after.areas link h in
      split number (next_in after)
      (λ below. omega (arith, queued, all.given number below))
      (λ above. omega (arith, queued, all.not_given number above))

  -- a call that takes a link out
  pub changed_over : (calls : List Call) (call : Call)
      → let before = ran plan calls (fresh m) in
      let ending = ending_by plan call before in
      ending.ends ≡ true
      → ChangedOver plan (found call before) ending (retired_by plan (found call before) call.message (view_of call.event))
      (result_of plan call before)
  unfolding called
  changed_over calls call ends =
      let before : Memory = ran plan calls (fresh m) in
      let now : Memory = lent call before in
      let regular : RegularAt now = configured_regular text m whole calls in
      call_changes plan now.areas (ending_by plan call before) (retired_by plan now.areas call.message (view_of call.event))
      (result_of plan call before)
      (ending_asks plan now.areas now.octets regular call.message (view_of call.event) ends)
      (ending_starts plan now.areas now.octets regular call.message (view_of call.event) ends)
      (ending_exactly plan call.message now regular call.event ends)
      (queue_once calls)
      (λ link number h.
      let next = queue_once (calls ++ (call ∷ [])) link number h in
      omega (arith, next, ap (λ (w : Memory). tally (is number) (queue_of w.areas link)) (ran_on plan calls call (fresh m))))
