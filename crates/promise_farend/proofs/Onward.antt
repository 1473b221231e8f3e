-- Queues that go on: every link's but one has what it had and what is new behind it, and its numbers stay as they were.
-- Assumes nothing.
use mathlib.Core.Path.{◌≡◌, refl, sym, ap, ◌∙◌}
use mathlib.Core.List.{List, [], ◌++◌, append-nil, append_assoc}
use Prim.Native.Nat.{ℕ, ◌%◌, ◌<◌}
use native.Mathlib.Nat.{mod-lt, mod-eq_of_lt}
use native.Mathlib.Omega.{arith}
use lib.Dec.{lit<}
use lib.ListN.{length}
use Rattle.plan.proofs.Split.{alike}
use Rattle.area_links.specs.declared.LinkRecord.{LinkRecord}
use Rattle.area_links.specs.LinkRecords.{record_at}
use Rattle.replies.specs.Areas.{Areas, with_links, with_marks}
use Rattle.numbers.specs.Numbers.{taken}
use Rattle.promise_runs.proofs.Keeping.{loaded_in_range}
use Rattle.promise_runs.proofs.Records.{Rewritten, received_rewritten}
use Rattle.promise_accounts.specs.Gone.{queue_of}

-- a record with the numbers of another, that is out exactly where the other is: states are stored modulo 4
pub record Same (known new : LinkRecord) : Type 0 where
  pub acknowledged_same : new.acknowledged ≡ known.acknowledged
  pub sent_same : new.sent ≡ known.sent
  pub still_out : known.state ≡ 0 → new.state ≡ 0
  pub still_in : new.state % 4 ≡ 0 → known.state % 4 ≡ 0

-- as one that is the other
pub same_if : (known new : LinkRecord) → new ≡ known → Same known new
same_if known new is = record {
  acknowledged_same = ap (λ (k : LinkRecord). k.acknowledged) is;
  sent_same = ap (λ (k : LinkRecord). k.sent) is;
  still_out = λ e. ap (λ (k : LinkRecord). k.state) is ∙ e;
  still_in = λ e. sym (ap (λ (k : LinkRecord). k.state % 4) is) ∙ e;
}

pub same_self : (known : LinkRecord) → Same known known
same_self known = same_if known known refl

pub same_on : (first next last : LinkRecord) → Same first next → Same next last → Same first last
same_on first next last one two =
    record {
      acknowledged_same = two.acknowledged_same ∙ one.acknowledged_same;
      sent_same = two.sent_same ∙ one.sent_same;
      still_out = λ e. two.still_out (one.still_out e);
      still_in = λ e. one.still_in (two.still_in e);
    }

-- from one to the next, for every link but one
pub record Onward (but : ℕ) (a b : Areas) : Type 0 where
  pub queues : (link : ℕ) → link < 32 → (link ≡ but → ⊥) → (new : List ℕ) × (queue_of b link ≡ queue_of a link ++ new)
  pub records : (link : ℕ) → link < 32 → (link ≡ but → ⊥) → Same (record_at a.links link) (record_at b.links link)

pub onward_none : (but : ℕ) (a : Areas) → Onward but a a
onward_none but a = record {
  queues = λ link h apart. ([], sym (append-nil (queue_of a link)));
  records = λ link h apart. same_self (record_at a.links link);
}

pub onward_on : (but : ℕ) (a b c : Areas) → Onward but a b → Onward but b c → Onward but a c
onward_on but a b c one two = record {
  queues =
      λ link h apart.
      let first = one.queues link h apart in
      let next = two.queues link h apart in (
        first.0 ++ next.0,
        next.1 ∙ ap (λ (l : List ℕ). l ++ next.0) first.1 ∙ append_assoc (queue_of a link) first.0 next.0,
      );
  records =
      λ link h apart.
      same_on (record_at a.links link) (record_at b.links link) (record_at c.links link) (one.records link h apart)
      (two.records link h apart);
}

-- a record that is stored with the numbers that it had
stored : (links : List ℕ) → length links ≡ 256 → (link : ℕ) (new : LinkRecord) (after : List ℕ) → Rewritten links link new after
    → Same (record_at links link) new
    → (other : ℕ)
    → other < 32
    → Same (record_at links other) (record_at after other)
stored links long link new after rewritten same other h =
    alike other link
    (λ here.
    let within : link < 32 = omega arith in
    let low : (record_at links link).acknowledged < 128 = mod-lt _ (lit< tt) in
    let few = (loaded_in_range links link).sent_low in
    let there = rewritten.there long within in
    simp here
    (record {
      acknowledged_same =
          ap (λ (k : LinkRecord). k.acknowledged) there ∙ mod-eq_of_lt (omega (arith, same.acknowledged_same)) ∙ same.acknowledged_same;
      sent_same = ap (λ (k : LinkRecord). k.sent) there ∙ mod-eq_of_lt (omega (arith, same.sent_same)) ∙ same.sent_same;
      still_out = λ e. ap (λ (k : LinkRecord). k.state) there ∙ ap (λ (n : ℕ). n % 4) (same.still_out e);
      still_in =
          λ e.
          let twice : new.state % 4 % 4 ≡ 0 = sym (ap (λ (k : LinkRecord). k.state % 4) there) ∙ e in
          same.still_in (omega (arith, twice));
    }))
    (λ apart. same_if (record_at links other) (record_at after other) (rewritten.others other apart))

-- links with another record, and flags, hold no messages
pub onward_stored : (but : ℕ) (a b : Areas) → length b.links ≡ 256 → Onward but a b
    → {link : ℕ} {new : LinkRecord} {after : List ℕ}
    → Rewritten b.links link new after
    → Same (record_at b.links link) new
    → Onward but a (with_links b after)
onward_stored but a b long onward {link} {new} {after} rewritten same =
    onward_on but a b (with_links b after) onward
    (record {
      queues = λ other h apart. ([], sym (append-nil (queue_of b other)));
      records = λ other h apart. stored b.links long link new after rewritten same other h;
    })

pub onward_taken : (but : ℕ) (a b : Areas) → length b.links ≡ 256 → Onward but a b → (arriving fsn : ℕ)
    → Onward but a (with_links b (taken b.links arriving fsn))
unfolding taken
onward_taken but a b long onward arriving fsn =
    onward_stored but a b long onward (received_rewritten b.links arriving fsn)
    (record { acknowledged_same = refl; sent_same = refl; still_out = λ e. e; still_in = λ e. e })

pub onward_marks : (but : ℕ) (a b : Areas) → Onward but a b → (marks : List ℕ) → Onward but a (with_marks b marks)
onward_marks but a b onward marks = record { queues = onward.queues; records = onward.records }
