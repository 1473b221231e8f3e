-- What is read off all that is told of a call is what is read off its four parts; a part whose lines give nothing gives nothing. Assumes nothing.
use mathlib.Core.Path.{◌≡◌, refl, ap, ap₂, ◌∙◌}
use mathlib.Core.Bool.{Bool, true, false, cond}
use mathlib.Core.List.{List, [], ◌∷◌, ◌++◌, append-nil}
use Prim.Native.Nat.{ℕ, zero, suc, ◌+◌, ◌-◌, min}
use lib.Dec.{eqb, ltb}
use borrow.Table.Steps.{cases}
use Rattle.area_links.specs.LinkRecords.{record_at}
use Rattle.fate_places.specs.Places.{Held, places, message_at, nowhere, whither}
use Rattle.fate_lines.specs.declared.Fate.{Fate}
use Rattle.fate_lines.specs.declared.Fate.TheVariants.{Unchanged, Queued, Sent, Acknowledged, Retired, Moved}
use Rattle.replay_fates.specs.declared.deciding.Part.{Part}
use Rattle.replay_fates.specs.declared.deciding.Part.TheVariants.{Arriving, Acknowledging, Retiring, Moving}
use Rattle.replay_fates.specs.Fates.{fate_at, fates_at, fates_from, fates_in, sent_fate, leaving_part, fates_of}
use Rattle.replay_fates.specs.Holds.{Seen}
use Rattle.promise_fates.specs.Lines.{picked}
use Rattle.promise_fates.proofs.Walked.{picked_on}

-- what is read off what a test decides
pub by_either : {A B : Type 0} (read : A → B) (test : Bool) (x y : A) → read (cond test x y) ≡ cond test (read x) (read y)
by_either read true x y = refl
by_either read false x y = refl

neither : {B : Type 0} (test : Bool) → cond {A = List B} test [] [] ≡ []
neither true = refl
neither false = refl

module _ {B : Type 0} (read : Fate → List B) where
  -- a part whose lines give nothing
  module _ (part : Part) (walked after : Held) (reports : List ℕ) (count : ℕ)
      (none : (queue place : ℕ) → read (fate_at part walked after reports count queue place) ≡ []) where
    none_at : (queue place more : ℕ) → picked read (fates_at part walked after reports count queue place more) ≡ []
    unfolding fates_at picked
    none_at queue place zero = refl
    none_at queue place (suc more) = ap₂ (λ (one rest : List B). one ++ rest) (none queue place) (none_at queue (place + 1) more)

    none_from : (queue queues left : ℕ) → picked read (fates_from part walked after reports count queue queues left) ≡ []
    unfolding fates_from picked
    none_from queue zero left = refl
    none_from queue (suc queues) left =
        let many : ℕ = min (places walked queue) left in
        picked_on read (fates_at part walked after reports count queue 0 many)
        (fates_from part walked after reports count (queue + 1) queues (left - many))
        ∙ ap₂ (λ (one rest : List B). one ++ rest) (none_at queue 0 many) (none_from (queue + 1) queues (left - many))

    pub none_in : picked read (fates_in part walked after reports count) ≡ []
    unfolding fates_in
    none_in = none_from 0 33 256

  module _ (s : Seen) where
    abbrev pub part : Part → Held → List Fate
    part which walked = fates_in which walked s.after s.reports s.told.reports

    abbrev pub all : List Fate
    all = fates_of s.told s.links s.before s.after s.reports

    abbrev pub sent : Fate
    sent = sent_fate s.told s.links s.after

    -- all four
    pub four : picked read all
        ≡ picked read (part (Arriving s.told.next) s.after)
        ++ (read sent ++ (picked read (part (leaving_part s.told) s.before) ++ picked read (part Moving s.before)))
    unfolding fates_of picked
    four =
        picked_on read (part (Arriving s.told.next) s.after) (sent ∷ (part (leaving_part s.told) s.before ++ part Moving s.before))
        ∙ ap (λ (l : List B). picked read (part (Arriving s.told.next) s.after) ++ (read sent ++ l))
        (picked_on read (part (leaving_part s.told) s.before) (part Moving s.before))

    -- a kind of lines that a part doesn't have
    abbrev pub to : Held → ℕ → ℕ → ℕ
    to walked queue place = whither s.after s.reports s.told.reports queue (message_at walked queue place).arrival

    pub no_new : read Unchanged ≡ [] → ((arrival link heading : ℕ) → read (Queued arrival link heading) ≡ [])
        → picked read (part (Arriving s.told.next) s.after) ≡ []
    no_new nothing none =
        none_in (Arriving s.told.next) s.after s.after s.reports s.told.reports
        (λ queue place.
        let known = message_at s.after queue place in
        let test = ltb known.arrival s.told.next in
        by_either read test Unchanged (Queued known.arrival queue known.heading)
        ∙ ap₂ (λ (x y : List B). cond test x y) nothing (none known.arrival queue known.heading)
        ∙ neither test)

    pub no_sent : read Unchanged ≡ [] → ((arrival link fsn : ℕ) → read (Sent arrival link fsn) ≡ []) → read sent ≡ []
    unfolding sent_fate
    no_sent nothing none =
        let told = s.told in
        let arrival = (message_at s.after told.sender ((record_at s.links told.sender).sent - 1)).arrival in
        let test = ltb told.sender 32 in
        by_either read test (Sent arrival told.sender told.fsn) Unchanged
        ∙ ap₂ (λ (x y : List B). cond test x y) (none arrival told.sender told.fsn) nothing
        ∙ neither test

    pub no_moved : read Unchanged ≡ [] → ((arrival from to : ℕ) → read (Moved arrival from to) ≡ []) → picked read (part Moving s.before) ≡ []
    no_moved nothing none =
        none_in Moving s.before s.after s.reports s.told.reports
        (λ queue place.
        let test = ltb (to s.before queue place) nowhere in
        let known = message_at s.before queue place in
        by_either read test (Moved known.arrival queue (to s.before queue place)) Unchanged
        ∙ ap₂ (λ (x y : List B). cond test x y) (none known.arrival queue (to s.before queue place)) nothing
        ∙ neither test)

    -- of those that leave by a call of either kind
    pub no_acknowledged : read Unchanged ≡ [] → ((arrival link : ℕ) → read (Acknowledged arrival link) ≡ [])
        → picked read (part Acknowledging s.before) ≡ []
    no_acknowledged nothing none =
        none_in Acknowledging s.before s.after s.reports s.told.reports
        (λ queue place.
        let test = eqb (to s.before queue place) nowhere in
        let known = message_at s.before queue place in
        by_either read test (Acknowledged known.arrival queue) Unchanged
        ∙ ap₂ (λ (x y : List B). cond test x y) (none known.arrival queue) nothing
        ∙ neither test)

    pub no_retired : read Unchanged ≡ [] → ((arrival link : ℕ) → read (Retired arrival link) ≡ [])
        → picked read (part Retiring s.before) ≡ []
    no_retired nothing none =
        none_in Retiring s.before s.after s.reports s.told.reports
        (λ queue place.
        let test = eqb (to s.before queue place) nowhere in
        let known = message_at s.before queue place in
        by_either read test (Retired known.arrival queue) Unchanged
        ∙ ap₂ (λ (x y : List B). cond test x y) (none known.arrival queue) nothing
        ∙ neither test)

    leaving_is : (b : Bool) → s.told.acknowledges ≡ b → leaving_part s.told ≡ cond b Acknowledging Retiring
    leaving_is b e = ap (λ (t : Bool). cond t Acknowledging Retiring) e

    -- neither acknowledged nor retired
    pub no_left : read Unchanged ≡ [] → ((arrival link : ℕ) → read (Acknowledged arrival link) ≡ [])
        → ((arrival link : ℕ) → read (Retired arrival link) ≡ []) → picked read (part (leaving_part s.told) s.before) ≡ []
    no_left nothing neither-one nor-other =
        cases s.told.acknowledges
        (λ e. ap (λ (p : Part). picked read (part p s.before)) (leaving_is true e) ∙ no_acknowledged nothing neither-one)
        (λ e. ap (λ (p : Part). picked read (part p s.before)) (leaving_is false e) ∙ no_retired nothing nor-other)

    -- lines that only those that leave have
    pub only_left : (which : Part) → leaving_part s.told ≡ which → read Unchanged ≡ []
        → ((arrival link heading : ℕ) → read (Queued arrival link heading) ≡ [])
        → ((arrival link fsn : ℕ) → read (Sent arrival link fsn) ≡ [])
        → ((arrival from to : ℕ) → read (Moved arrival from to) ≡ [])
        → picked read all ≡ picked read (part which s.before)
    only_left which is nothing no-queued no-sending no-moves =
        four
        ∙ ap₂ (λ (x y : List B). x ++ y) (no_new nothing no-queued)
        (ap₂ (λ (x y : List B). x ++ y) (no_sent nothing no-sending)
        (ap₂ (λ (x y : List B). x ++ y) (ap (λ (p : Part). picked read (part p s.before)) is) (no_moved nothing no-moves)
        ∙ append-nil (picked read (part which s.before))))
