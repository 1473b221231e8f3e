-- What the expiry of T1 or T2 leaves: all as it was where it is refused, else the link is out and its queue moved.
-- Assumes nothing.
use mathlib.Core.Path.{◌≡◌}
use mathlib.Core.List.{List}
use Prim.Native.Nat.{ℕ}
use Rattle.plan.specs.declared.data.Plan.{Plan}
use Rattle.std.specs.Prelude.{Result, Err, Ok}
use Rattle.replies.specs.declared.Answer.{Answer}
use Rattle.replies.specs.declared.Refusal.{Refusal}
use Rattle.replies.proofs.Numbers.{over, none, answers}
use Rattle.replies.specs.Reply.{plain, done, number, number_of}
use Rattle.replies.specs.Areas.{Areas, areas, Leaves}
use Rattle.changeover_cuts.specs.declared.Cut.{Cut}
use Rattle.changeover_cuts.specs.Cuts.{cut_none}
use Rattle.changeover_ending.specs.End.{out_of_service}
use Rattle.changeover_failure.specs.Overdue.{reply_of}
use Rattle.changeover_overdue.specs.Expire.{expired}
use Rattle.replies.proofs.Judging.{leaves_refused, leaves_done}
use Rattle.changeover_ending.proofs.Ended.{EndLeaves, out_whole}

module _ (plan : Plan) (a : Areas) (link timer : ℕ) (told : Result Unit Refusal) (is : number_of told ≡ reply_of plan a.links link timer a.reports) where
  pub expiry_refused : (refusal : Refusal) → told ≡ Err refusal → (answer : Answer) → answer ≡ plain (number refusal)
      → Leaves (expired plan a link timer) answer a
  unfolding expired
  expiry_refused refusal refuses answer says =
      leaves_refused (number_of told) (reply_of plan a.links link timer a.reports) is (out_of_service plan a link cut_none) a
      (over told refusal refuses) answer (answers told refusal refuses answer says)

  pub goes_out : told ≡ Ok tt → (parts : Cut) → parts ≡ cut_none
      → (count : ℕ) (reports links spans rings : List ℕ) → EndLeaves plan a link parts count reports links spans rings
      → (answer : Answer) → answer ≡ done count
      → Leaves (expired plan a link timer) answer (areas links a.marks spans rings a.rows a.arrivals reports)
  unfolding expired
  goes_out fits parts cut count reports links spans rings left answer says =
      leaves_done (number_of told) (reply_of plan a.links link timer a.reports) is (out_of_service plan a link cut_none) a (none told tt fits) answer
      (areas links a.marks spans rings a.rows a.arrivals reports)
      (out_whole plan a link parts count reports links spans rings left answer says cut_none cut)
