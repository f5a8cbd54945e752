use Rattle.std.proofs.Common.{◌≡◌, ◌++◌, [], ◌∷◌, ℕ, List, ◌∙◌, ap, append_assoc}
use Rattle.std.specs.Prelude.{replicate}
use Rattle.mon_journal.specs.Fields.{second_word}
use Rattle.mon_journal.specs.Written.{generation_bytes}
use Rattle.mon_journal.proofs.encoded.put_header.Goals as goal

in_order : (out word : List ℕ) (rank monitors : ℕ) (zeros generation : List ℕ)
    → ((((out ++ word) ++ rank ∷ []) ++ monitors ∷ []) ++ zeros) ++ generation ≡ out ++ (word ++ (rank ∷ monitors ∷ (zeros ++ generation)))
in_order out word rank monitors zeros generation = simp append_assoc

pub returns : goal.returns
unfolding generation_bytes
returns c =
    c.in_ok-put_u64.ensures.ok
    ∙ ap (λ (l : List ℕ). l ++ generation_bytes c.args.generation)
    (c.in_ok-put_bytes-2.ensures.ok ∙ ap (λ (l : List ℕ). l ++ replicate 6 0)
    (c.in_ok-put_u8-2.ensures.ok ∙ ap (λ (l : List ℕ). l ++ c.args.member.now.monitors ∷ [])
    (c.in_ok-put_u8.ensures.ok ∙ ap (λ (n : ℕ). c.put_bytes.new.self ++ n ∷ []) c.get.ensures.value ∙ ap (λ (l : List ℕ). l ++ c.args.member.now.rank ∷ []) c.in_ok-put_bytes.ensures.ok)))
    ∙ in_order c.args.out.now second_word c.args.member.now.rank c.args.member.now.monitors (replicate 6 0) (generation_bytes c.args.generation)
