-- What is shown of an answer has room behind 65,536 octets of a page: a decimal has at most twenty digits, a report area 512 records, an output 4,096
-- octets and so at most as many lines. Assumes nothing.
use Rattle.std.proofs.Common.{◌≡◌, ℕ, zero, suc, ◌+◌, ◌*◌, ◌/◌, ◌%◌, ◌≤◌, min, ◌&&◌, eqb, ltb, leb, List, [], ◌∷◌, ◌++◌, length, get_or, refl, arith, length-append, length-drop, length-take}
use lib.Seq.{slice}
use borrow.Table.Steps.{cases}
use Rattle.text.specs.Part.{split, on_first, lf}
use Rattle.text_decimals.specs.Decimal.{decimal_of, digits_on}
use Rattle.text_hex.specs.Hex.{hex_of}
use Rattle.text_hex.proofs.Octets.{hex_length}
use Rattle.wire.specs.Header.{after_label}
use Rattle.replies.specs.declared.Answer.{Answer}
use Rattle.replay_showing.specs.declared.shows.Shows.{Shows}
use Rattle.replay_showing.specs.declared.shows.Shows.TheVariants.{Sent, Delivered, Listed, Nothing}
use Rattle.text_pages.specs.Page.{joined, ended, parted}
use Rattle.replay_reports.specs.Reported.{reported, reported_from, all_reported}
use Rattle.replay_refusals.specs.Refused.{unreadable}
use Rattle.replay_showing.specs.Reply.{replied, reply_word, behind}
use Rattle.replay_routes.specs.Routed.{routed, route_word}
use Rattle.replay_answers.specs.Answers.{answered, list_lines}
use Rattle.replay_answers.specs.declared.view.View.{View}
use Rattle.replay_answers.specs.Shown.{shown}

-- pieces behind pieces are as long as both
pub both_long : (one other : List (List ℕ)) → length (joined (one ++ other)) ≡ length (joined one) + length (joined other)
unfolding joined
both_long [] other = omega arith
both_long (piece ∷ one) other =
    omega (arith, length-append piece (joined (one ++ other)), length-append piece (joined one), both_long one other)

digits_long : (most n : ℕ) (rest : List ℕ) → length (digits_on most n rest) ≤ most + length rest
unfolding digits_on
digits_long zero n rest = omega arith
digits_long (suc most) n rest =
    cases (ltb n 10)
    (λ e. simp e (omega arith))
    (λ e. simp e (omega (arith, digits_long most (n / 10) ((48 + n % 10) ∷ rest))))

pub decimal_long : (n : ℕ) → length (decimal_of n) ≤ 20
decimal_long n = digits_long 20 n []

-- a record of the report area
report_long : (number kind about : ℕ) → length (joined (reported number kind about)) ≤ 70
unfolding joined
report_long number kind about =
    let n = decimal_long number in
    let k = decimal_long kind in
    let a = decimal_long about in
    cases (eqb kind 4)
    (λ e. simp (e, length-append) (omega (arith, n, a)))
    (λ e. cases (eqb kind 5)
    (λ f. simp (e, f, length-append) (omega (arith, n, a)))
    (λ f. simp (e, f, length-append) (omega (arith, n, k, a))))

reports_long : (number : ℕ) (reports : List ℕ) (k more : ℕ) → length (joined (reported_from number reports k more)) ≤ 70 * more
unfolding reported_from joined
reports_long number reports k zero = omega arith
reports_long number reports k (suc more) =
    let kind = get_or reports (2 * k) 0 in
    let about = get_or reports (2 * k + 1) 0 in
    omega (
      arith,
      both_long (reported number kind about) (reported_from number reports (k + 1) more),
      report_long number kind about,
      reports_long number reports (k + 1) more,
    )

pub piece_long : (piece : List ℕ) (more : List (List ℕ)) → length (joined (piece ∷ more)) ≡ length piece + length (joined more)
unfolding joined
piece_long piece more = length-append piece (joined more)

-- lines between marks: at most one more than octets, and together no longer than the text
first_count : (x : ℕ) (parts : List (List ℕ)) → length (on_first x parts) ≤ length parts + 1
first_count x [] = omega arith
first_count x (first ∷ rest) = omega arith

first_long : (x : ℕ) (parts : List (List ℕ)) → length (joined (on_first x parts)) ≡ 1 + length (joined parts)
unfolding joined
first_long x [] = refl
first_long x (first ∷ rest) = omega arith

split_count : (mark : ℕ) (text : List ℕ) → length (split mark text) ≤ length text + 1
unfolding split
split_count mark [] = omega arith
split_count mark (x ∷ text) =
    let rest = split_count mark text in
    cases (eqb x mark)
    (λ e. simp e (omega (arith, rest)))
    (λ e. simp e (omega (arith, rest, first_count x (split mark text))))

split_long : (mark : ℕ) (text : List ℕ) → length (joined (split mark text)) ≤ length text
unfolding split joined
split_long mark [] = omega arith
split_long mark (x ∷ text) =
    let rest = split_long mark text in
    cases (eqb x mark)
    (λ e. simp e (omega (arith, rest)))
    (λ e. simp e (omega (arith, rest, first_long x (split mark text))))

-- the lines of a route list
routed_long : (number : ℕ) (lines : List (List ℕ)) → length (joined (routed number lines)) ≤ 28 * length lines + length (joined lines)
unfolding routed joined
routed_long number [] = omega arith
routed_long number (last ∷ []) = omega arith
routed_long number (line ∷ next ∷ more) =
    let rest = routed number (next ∷ more) in
    omega (
      arith,
      decimal_long number,
      routed_long number (next ∷ more),
      piece_long (decimal_of number) (route_word ∷ line ∷ ended ∷ rest),
      piece_long route_word (line ∷ ended ∷ rest),
      piece_long line (ended ∷ rest),
      piece_long ended rest,
      piece_long line (next ∷ more),
    )

-- a part from the start is no longer than the text
pub slice_long : (to : ℕ) (text : List ℕ) → length (slice 0 to text) ≤ length text
slice_long to text = simp (length-drop, length-take) (omega arith)

pub list_long : (shows : Shows) (number octets : ℕ) (out : List ℕ) → length out ≡ 4096 → length (joined (list_lines shows number octets out)) ≤ 118812
unfolding joined
list_long Sent number octets out h = omega arith
list_long Delivered number octets out h = omega arith
list_long Listed number octets out h =
    let text = slice 0 octets out in
    omega (arith, h, slice_long octets out, routed_long number (split lf text), split_count lf text, split_long lf text)
list_long Nothing number octets out h = omega arith

behind_long : (shows : Shows) (answer : Answer) (message out : List ℕ) → length message ≤ 1024 → length out ≡ 4096
    → length (joined (behind shows answer message out)) ≤ 8214
unfolding joined
behind_long Sent answer message out short h =
    let octets = slice 0 answer.octets out in
    cases (eqb answer.reply 0)
    (λ e.
    simp e
    (omega (
      arith,
      h,
      slice_long answer.octets out,
      hex_length octets,
      decimal_long answer.fsn,
      piece_long parted (decimal_of answer.fsn ∷ parted ∷ hex_of octets ∷ []),
      piece_long (decimal_of answer.fsn) (parted ∷ hex_of octets ∷ []),
      piece_long parted (hex_of octets ∷ []),
      piece_long (hex_of octets) [],
    )))
    (λ e. simp e (omega arith))
behind_long Delivered answer message out short h =
    let octets = after_label message in
    cases answer.delivers
    (λ e.
    simp e
    (omega (arith, short, length-drop 5 message, hex_length octets, piece_long parted (hex_of octets ∷ []), piece_long (hex_of octets) [])))
    (λ e. simp e (omega arith))
behind_long Listed answer message out short h = omega arith
behind_long Nothing answer message out short h = omega arith

module _ (number : ℕ) (answer : Answer) (message out reports : List ℕ) (short : length message ≤ 1024) (out-long : length out ≡ 4096) (reports-are : length reports ≡ 1024) where
  reported_long : length (joined (all_reported number reports answer.reports)) ≤ 35840
  reported_long =
      omega (arith, reports-are, reports_long number reports 0 (min answer.reports (length reports / 2)))

  -- the fates of a call, or the list of a question
  module _ (shows : Shows) (fates : List (List ℕ))
      (few : length (joined fates) + length (joined (list_lines shows number answer.octets out)) ≤ 118812) where
    answer_long : length (joined (answered number shows answer message out fates reports)) ≤ 163000
    unfolding joined
    answer_long =
        let reply = replied number answer.reply in
        let more = behind shows answer message out in
        let told = all_reported number reports answer.reports in
        let list = list_lines shows number answer.octets out in
        omega (
          arith,
          both_long (reply ++ (more ++ (ended ∷ []))) (fates ++ (told ++ list)),
          both_long reply (more ++ (ended ∷ [])),
          both_long more (ended ∷ []),
          both_long fates (told ++ list),
          both_long told list,
          piece_long (decimal_of number) (reply_word ∷ decimal_of answer.reply ∷ []),
          piece_long reply_word (decimal_of answer.reply ∷ []),
          piece_long (decimal_of answer.reply) [],
          decimal_long number,
          decimal_long answer.reply,
          behind_long shows answer message out short out-long,
          reported_long,
          few,
        )

    -- whatever is asked for
    pub shown_long : (view : View) → length (joined (shown view number shows answer message out fates reports)) ≤ 163000
    unfolding joined
    shown_long view =
        cases (leb view.first number && leb number view.last)
        (λ e. cases view.only (λ f. simp (e, f) (omega (arith, reported_long))) (λ f. simp (e, f) (omega (arith, answer_long))))
        (λ e. simp e (omega arith))

  -- of a question
  pub asked_long : (view : View) (shows : Shows) → length (joined (shown view number shows answer message out [] reports)) ≤ 163000
  unfolding joined
  asked_long view shows = shown_long shows [] (omega (arith, list_long shows number answer.octets out out-long)) view

-- and of a line that can't be read
pub unreadable_long : (number : ℕ) → length (joined (unreadable number)) ≤ 40
unfolding joined
unreadable_long number = omega (arith, decimal_long number, length-append (decimal_of number) (joined ((9 ∷ 114 ∷ 101 ∷ 102 ∷ 117 ∷ 115 ∷ 101 ∷ 100 ∷ 9 ∷ 51 ∷ 48 ∷ 10 ∷ []) ∷ [])))
