-- The records left are the next one and those behind it; at the end none is left.
-- Assumes nothing.
use mathlib.Core.Path.{◌≡◌, ap, ◌∙◌}
use native.Mathlib.Omega.{arith}
use Prim.Native.Nat.{ℕ, ◌+◌, ◌*◌, ◌/◌, min}
use native.Mathlib.Nat.{sub-zero}
use lib.ListN.{length, get_or}
use Rattle.text_pages.specs.Page.{page, puts}
use Rattle.replay_reports.specs.Reported.{reported, reported_from}
use Rattle.text_pages.proofs.Pages.{left_on, left_none}
use Rattle.replay_reports.proofs.Reports.{reports_on, reports_end}
use Rattle.replay_reports.proofs.put_reports.Goals as goal

pub loop-k-init : goal.loop-k-init
loop-k-init c =
    let a = c.args in
    let few : c.min-count.result ≡ min a.count (length a.reports.now / 2) = omega arith in
    (omega arith, few, ap (λ (n : ℕ). puts (page a.out.now a.at) (reported_from a.number a.reports.now 0 n)) (sub-zero c.min-count.result))

pub loop-k-preserved : goal.loop-k-preserved
loop-k-preserved c =
    let l = c.loop-k in
    let a = c.args in
    let reports = a.reports.now in
    let pieces = reported a.number (get_or reports (2 * l.k) 0) (get_or reports (2 * l.k + 1) 0) in (
      omega arith,
      l.invariant.1,
      left_on l.out l.at _ pieces _ (reports_on a.number reports l.k _ c.loop-k-test.true) l.invariant.2 c.put_report-at.ensures,
    )

pub returns : goal.returns
returns c =
    let l = c.loop-k in
    let a = c.args in
    left_none (page l.out l.at) _ (reports_end a.number a.reports.now l.k _ c.loop-k-test.false) l.invariant.2
    ∙ ap (λ (n : ℕ). puts (page a.out.now a.at) (reported_from a.number a.reports.now 0 n)) l.invariant.1
