-- Over any run of calls from any configuration: those told as acknowledged and as retired are, in order, all that is counted so. Assumes nothing.
use mathlib.Core.Path.{◌≡◌, refl, sym, ap, ap₂, subst, ◌∙◌}
use mathlib.Core.List.{List, [], ◌∷◌, ◌++◌, map, append-nil, append_assoc}
use Prim.Native.Nat.{ℕ}
use lib.ListN.{length}
use Rattle.plan.specs.declared.data.Plan.{Plan}
use Rattle.plan_configuration.specs.Configure.{configured}
use Rattle.node.specs.View.{view_of}
use Rattle.node.specs.Memory.{Memory}
use Rattle.fate_lines.specs.declared.Fate.{Fate}
use Rattle.fate_lines.specs.declared.Fate.TheVariants.{Unchanged, Queued, Sent, Acknowledged, Retired, Moved}
use Rattle.promise_runs.specs.Run.{Call, called, ran, fresh, Whole}
use Rattle.promise_accounts.specs.Gone.{acknowledged_by, retired_by, Gone, nothing_gone, gone_by, gone_in}
use Rattle.promise_changeover.specs.ChangedOver.{found, ending_by}
use Rattle.promise_changeover.proofs.ChangedOver.{ran_on}
use Rattle.promise_fates.specs.Lines.{picked, acknowledged_line, retired_line}
use Rattle.promise_fates.specs.History.{fates_by, acknowledged_over}
use Rattle.promise_fates.specs.WholeRun.{told_in, acknowledged_number, retired_number, RunTold}
use Rattle.promise_fates.proofs.Walked.{picked_on}
use Rattle.promise_fates.proofs.GoneAre.{acknowledged_are, retired_are}

module _ (read : Fate → List ℕ) where
  -- a number is read off the lines of its kind
  of_lines : (line : Fate → List Fate) → ((fate : Fate) → picked read (line fate) ≡ read fate) → (l : List Fate)
      → picked read (picked line l) ≡ picked read l
  unfolding picked
  of_lines line each [] = refl
  of_lines line each (fate ∷ l) =
      picked_on read (line fate) (picked line l) ∙ ap₂ (λ (x y : List ℕ). x ++ y) (each fate) (of_lines line each l)

  -- and is the one that it was made of
  of_numbers : (line : ℕ → Fate) → ((number : ℕ) → read (line number) ≡ number ∷ []) → (l : List ℕ) → picked read (map line l) ≡ l
  unfolding picked
  of_numbers line each [] = refl
  of_numbers line each (number ∷ l) = ap₂ (λ (x y : List ℕ). x ++ y) (each number) (of_numbers line each l)

acknowledged_read : (fate : Fate) → picked acknowledged_number (acknowledged_line fate) ≡ acknowledged_number fate
unfolding picked
acknowledged_read Unchanged = refl
acknowledged_read (Queued arrival link heading) = refl
acknowledged_read (Sent arrival link fsn) = refl
acknowledged_read (Acknowledged arrival link) = refl
acknowledged_read (Retired arrival link) = refl
acknowledged_read (Moved arrival from to) = refl

retired_read : (fate : Fate) → picked retired_number (retired_line fate) ≡ retired_number fate
unfolding picked
retired_read Unchanged = refl
retired_read (Queued arrival link heading) = refl
retired_read (Sent arrival link fsn) = refl
retired_read (Acknowledged arrival link) = refl
retired_read (Retired arrival link) = refl
retired_read (Moved arrival from to) = refl

module _ (m : Memory) (whole : Whole m) (one : length m.areas.arrivals ≡ 1) (text : List ℕ) where
  abbrev plan : Plan
  plan = (configured text).plan

  -- a list that grows by what each call tells
  module _ (read : Fate → List ℕ) (of : Gone → List ℕ) (by : Call → Memory → List ℕ)
      (grows : (call : Call) (now : Memory) (gone : Gone) → of (gone_by plan call now gone) ≡ of gone ++ by call now)
      (tells : (calls : List Call) (call : Call)
      → picked read (fates_by plan call (ran plan calls (fresh m))) ≡ by call (ran plan calls (fresh m))) where
    run_grows : (later earlier : List Call) (gone : Gone)
        → of (gone_in plan later (ran plan earlier (fresh m)) gone) ≡ of gone ++ picked read (told_in plan later (ran plan earlier (fresh m)))
    unfolding gone_in told_in picked
    run_grows [] earlier gone = sym (append-nil (of gone))
    run_grows (call ∷ later) earlier gone =
        let now : Memory = ran plan earlier (fresh m) in
        let then : Gone = gone_by plan call now gone in
        let rest : List Fate = told_in plan later (called plan call now) in
        subst (λ (w : Memory). of (gone_in plan later w then) ≡ of then ++ picked read (told_in plan later w)) (ran_on plan earlier call (fresh m))
        (run_grows later (earlier ++ (call ∷ [])) then)
        ∙ ap (λ (l : List ℕ). l ++ picked read rest) (grows call now gone)
        ∙ append_assoc (of gone) (by call now) (picked read rest)
        ∙ ap (λ (l : List ℕ). of gone ++ l)
        (ap (λ (l : List ℕ). l ++ picked read rest) (sym (tells earlier call)) ∙ sym (picked_on read (fates_by plan call now) rest))

  -- every run
  pub run_told : (calls : List Call) → RunTold plan calls (fresh m)
  unfolding gone_by ran
  run_told calls =
      record {
        acknowledged =
            run_grows acknowledged_number (λ (gone : Gone). gone.acknowledged)
            (λ (call : Call) (now : Memory). acknowledged_by plan (found call now) (view_of call.event))
            (λ call now gone. refl)
            (λ earlier call.
            sym (of_lines acknowledged_number acknowledged_line acknowledged_read (fates_by plan call (ran plan earlier (fresh m))))
            ∙ ap (picked acknowledged_number) (acknowledged_are m whole one text earlier call)
            ∙ of_numbers acknowledged_number (λ (number : ℕ). Acknowledged number (acknowledged_over (view_of call.event))) (λ number. refl)
            (acknowledged_by plan (found call (ran plan earlier (fresh m))) (view_of call.event)))
            calls
            []
            nothing_gone;
        retired =
            run_grows retired_number (λ (gone : Gone). gone.retired)
            (λ (call : Call) (now : Memory). retired_by plan (found call now) call.message (view_of call.event))
            (λ call now gone. refl)
            (λ earlier call.
            sym (of_lines retired_number retired_line retired_read (fates_by plan call (ran plan earlier (fresh m))))
            ∙ ap (picked retired_number) (retired_are m whole one text earlier call)
            ∙ of_numbers retired_number (λ (number : ℕ). Retired number (ending_by plan call (ran plan earlier (fresh m))).link) (λ number. refl)
            (retired_by plan (found call (ran plan earlier (fresh m))) call.message (view_of call.event)))
            calls
            []
            nothing_gone;
      }
