-- What one reaction sends, numbered after the messages that were sent before.
use Rattle.std.proofs.Common.{◌≡◌, ℕ, suc, ◌+◌, ◌-◌, List, [], ◌∷◌, ◌++◌, length, map, get_or, slice_get, Some, sym, ap, ◌∙◌, refl, arith, append_assoc, length-append}
use Rattle.std.proofs.lemmas.List.{append-nil, length-map, map-append}
use Rattle.std.proofs.lemmas.Option.{same_Some, slice_get_read}
use Rattle.std.proofs.lemmas.List.Elements.{filter_map-append}
use Rattle.mon_msg.specs.declared.plan.Sent.{Sent}
use Rattle.mon_msg.specs.declared.plan.Sent.TheVariants as sent
use Rattle.mon_wire.specs.declared.message.Message.{Message}
use Rattle.quorum_model.specs.Clients as clients
use Rattle.quorum_model.specs.Clients.{messages_of}
use Rattle.quorum_model.specs.World as model
use Rattle.trace_text.specs.declared.step.Numbered.{Numbered}
use Rattle.trace_text.specs.declared.step.Replied.{Replied}
use Rattle.mon_world.specs.declared.sending.Envelope.{Envelope}
use Rattle.mon_world.specs.declared.sending.Gone.{Gone}
use Rattle.mon_world.specs.Sending.{GoesOut, Sends}
use Rattle.mon_world.specs.Represented.{envelope_of}
use Rattle.mon_world.specs.Step.{numbered, replied}

pub numbered-append : (n : ℕ) (xs ys : List model.Envelope) → numbered n (xs ++ ys) ≡ numbered n xs ++ numbered (n + length xs) ys
numbered-append n [] ys = let e : n ≡ n + 0 = omega arith in ap (λ (k : ℕ). numbered k ys) e
numbered-append n (x ∷ xs) ys =
    let e : suc n + length xs ≡ n + suc (length xs) = omega arith in
    ap (λ (rest : List Numbered). record { number = n; to = x.to; message = x.message } ∷ rest)
    (numbered-append (suc n) xs ys ∙ ap (λ (k : ℕ). numbered (suc n) xs ++ numbered k ys) e)

replied-append : (rank : ℕ) (xs ys : List Sent) → replied rank (xs ++ ys) ≡ replied rank xs ++ replied rank ys
replied-append rank [] ys = refl
replied-append rank (sent.Message to m ∷ xs) ys = replied-append rank xs ys
replied-append rank (sent.Reply to r ∷ xs) ys =
    ap (λ (rest : List Replied). record { rank = rank; session = to; reply = r } ∷ rest) (replied-append rank xs ys)

-- what went out so far, if this many messages were sent before
pub record SoFar (rank : ℕ) (before : List Envelope) (sends : List Sent) (messages : List Envelope) (gone : Gone) : Type 0 where
  pub messages_are : map envelope_of messages ≡ map envelope_of before ++ messages_of sends
  pub gone_is : GoesOut rank (suc (length before)) sends gone

pub one_more : (rank : ℕ) (before old new : List Envelope) (sends : List Sent) (one : Sent) (gone after : Gone)
    → SoFar rank before sends old gone → Sends rank one old new gone after → SoFar rank before (sends ++ one ∷ []) new after
one_more rank before old new sends one gone after so goes =
    let more = filter_map-append clients.envelope_of sends (one ∷ []) in
    let long : suc (length old) ≡ suc (length before) + length (messages_of sends) =
    omega (arith, length-map old envelope_of, length-map before envelope_of, ap length so.messages_are, length-append (map envelope_of before) (messages_of sends)) in
    record {
      messages_are = goes.messages ∙ ap (λ (all : List model.Envelope). all ++ messages_of (one ∷ [])) so.messages_are
          ∙ append_assoc (map envelope_of before) (messages_of sends) (messages_of (one ∷ [])) ∙ ap (λ (all : List model.Envelope). map envelope_of before ++ all) (sym more);
      gone_is = record {
        sent = goes.sent ∙ ap (λ (all : List Numbered). all ++ numbered (suc (length old)) (messages_of (one ∷ []))) so.gone_is.sent
            ∙ ap (λ (n : ℕ). numbered (suc (length before)) (messages_of sends) ++ numbered n (messages_of (one ∷ []))) long
            ∙ sym (numbered-append (suc (length before)) (messages_of sends) (messages_of (one ∷ []))) ∙ ap (numbered (suc (length before))) (sym more);
        replies = goes.replies ∙ ap (λ (all : List Replied). all ++ replied rank (one ∷ [])) so.gone_is.replies ∙ sym (replied-append rank sends (one ∷ []));
      };
    }

-- ---- one of them

last_there : (xs : List Envelope) (x : Envelope) → slice_get (xs ++ x ∷ []) (length xs) ≡ Some x
last_there [] x = refl
last_there (y ∷ xs) x = last_there xs x

-- what is at the last place
pub last_is : (all before : List Envelope) (last found : Envelope) (place : ℕ) → all ≡ before ++ last ∷ [] → place ≡ length all - 1 → found ≡ get_or all place found → found ≡ last
last_is all before last found place ends at read =
    let many : length all ≡ length before + 1 = omega (arith, ap length ends, length-append before (last ∷ [])) in
    let there : slice_get all place ≡ Some found = slice_get_read all (length all) place found refl (omega arith) read in
    let here : place ≡ length before = omega arith in
    same_Some found last
    (sym there ∙ (λ i. slice_get (ends i) (here i)) ∙ last_there before last)

pub message_sent : (rank number : ℕ) (to : ℕ) (message copy : Message) (old new : List Envelope) (before after : Gone) → new ≡ old ++ record { to = to; message = message } ∷ [] → copy ≡ message
    → number ≡ length new → after.sent ≡ before.sent ++ record { number = number; to = to; message = copy } ∷ [] → after.replies ≡ before.replies
    → Sends rank (sent.Message to message) old new before after
message_sent rank number to message copy old new before after pushed copied counted reported others =
    let e : Envelope = record { to = to; message = message } in
    let next : number ≡ suc (length old) = omega (arith, ap length pushed, length-append old (e ∷ [])) in
    record {
      messages = ap (map envelope_of) pushed ∙ map-append envelope_of old (e ∷ []);
      sent = reported ∙ (λ i. before.sent ++ record { number = next i; to = to; message = copied i } ∷ []);
      replies = others ∙ sym (append-nil before.replies);
    }
