-- An event that is the outcome it is held to leaves what that says. Assumes nothing.
use mathlib.Core.Path.{◌≡◌, ap}
use Rattle.replies.specs.declared.Answer.{Answer}
use Rattle.replies.specs.Areas.{Areas, Outcome, outcome, Leaves}

pub leaves : (o : Outcome) (r : Answer) (a : Areas) → outcome r a ≡ o → Leaves o r a
leaves o r a e =
    record {
      answers = ap (λ (x : Outcome). x.answer) e;
      in_links = ap (λ (x : Outcome). x.after.links) e;
      in_marks = ap (λ (x : Outcome). x.after.marks) e;
      in_spans = ap (λ (x : Outcome). x.after.spans) e;
      in_rings = ap (λ (x : Outcome). x.after.rings) e;
      in_rows = ap (λ (x : Outcome). x.after.rows) e;
      in_arrivals = ap (λ (x : Outcome). x.after.arrivals) e;
      in_reports = ap (λ (x : Outcome). x.after.reports) e;
    }
