-- "A line is a kind and its fields" (docs/FORMATS.md): the words of the kinds.
use Rattle.std.specs.Prelude.{ℕ, cond, List, [], ◌∷◌, Option, Some, None}
use Rattle.text.specs.Part.{same_text}
use Rattle.record_kinds.specs.declared.Kind.{Kind}
use Rattle.record_kinds.specs.declared.Kind.TheVariants.{Service, Failure, Send, Acknowledged, Received, Host, Routes, T1, T2, T3, T4, T6, T8, T10}

-- `t1`, `t2`, `t3`, `t4`, `t6`, `t8`, `t10`
unfoldable pub timer_of : List ℕ → Option Kind
timer_of text =
    cond (same_text text (116 ∷ 49 ∷ [])) (Some T1)
    (cond (same_text text (116 ∷ 50 ∷ [])) (Some T2)
    (cond (same_text text (116 ∷ 51 ∷ [])) (Some T3)
    (cond (same_text text (116 ∷ 52 ∷ [])) (Some T4)
    (cond (same_text text (116 ∷ 54 ∷ [])) (Some T6)
    (cond (same_text text (116 ∷ 56 ∷ [])) (Some T8)
    (cond (same_text text (116 ∷ 49 ∷ 48 ∷ [])) (Some T10)
    None))))))

-- `service`, `changeover_failure`, `send`, `ack`, `received`, `host`, `routes`, or a timer's (R223)
abbrev pub kind_of : List ℕ → Option Kind
kind_of text =
    cond (same_text text (115 ∷ 101 ∷ 114 ∷ 118 ∷ 105 ∷ 99 ∷ 101 ∷ [])) (Some Service)
    (cond (same_text text (102 ∷ 97 ∷ 105 ∷ 108 ∷ 117 ∷ 114 ∷ 101 ∷ [])) (Some Failure)
    (cond (same_text text (115 ∷ 101 ∷ 110 ∷ 100 ∷ [])) (Some Send)
    (cond (same_text text (97 ∷ 99 ∷ 107 ∷ [])) (Some Acknowledged)
    (cond (same_text text (114 ∷ 101 ∷ 99 ∷ 101 ∷ 105 ∷ 118 ∷ 101 ∷ 100 ∷ [])) (Some Received)
    (cond (same_text text (104 ∷ 111 ∷ 115 ∷ 116 ∷ [])) (Some Host)
    (cond (same_text text (114 ∷ 111 ∷ 117 ∷ 116 ∷ 101 ∷ 115 ∷ [])) (Some Routes)
    (timer_of text)))))))
