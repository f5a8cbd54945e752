-- What calls of the link make of calls of the link below.
use Rattle.std.proofs.Common.{◌≡◌, ◌≤◌, ℕ, Bool, true, false, not, cond, List, [], ◌∷◌, ◌++◌, Option, Some, Result, Ok, Err, refl, sym, ap, subst, ◌∙◌}
use Rattle.mon_link.specs.Histories.{Happened}
use Rattle.mon_link.specs.Histories.Happened.{Received, WasSent}
use Rattle.mon_link.specs.Layers.{Sent}
use Rattle.mon_link.specs.declared.link.Got.{Got}
use Rattle.mon_link.specs.declared.link.Got.TheVariants.{Idle}
use Rattle.mon_link.specs.declared.link.Peer.TheVariants.{Monitor}
use Rattle.mon_types.specs.declared.names.Stop.{Stop}
use Rattle.mon_resend.specs.declared.copies.Copies.{Copies}
use Rattle.mon_resend.specs.Histories.{Asks, GoesNow, GoesOrWaits}
use Rattle.mon_resend.specs.Notes.{is_due}
use Rattle.mon_resend.specs.declared.shelf.Kept.{Kept}
use Rattle.mon_resend.specs.Shelves.{due_copy_at}
use Rattle.mon_resend.specs.Sending.{isnt_handed_up, with_got}
use Rattle.mon_resend.specs.World.{all_due_copies, all_passed, is_sent_now, sent}
use Rattle.mon_resend.proofs.Nexts.{not_false, not_true}

pub asks_only : (wait slice : ℕ) → slice ≤ wait → (e : Stop) (c : Copies) → Asks wait (Err e) c c (Received slice (Err e) ∷ [])
asks_only wait slice within e c = record { slice = slice; within = within; gave = Err e; rest = []; are = refl; after = (refl, refl, refl) }

pub asks_and_sends : (wait slice : ℕ) → slice ≤ wait → (came : Got) (result : Result Got Stop) (old new : Copies) (again : Bool) (now : ℕ) (memory : Bool)
    → result ≡ Ok (cond (isnt_handed_up came now old) Idle came) → new ≡ all_passed again now (with_got memory came now old)
    → (xs ys : List Happened) → xs ≡ Received slice (Ok came) ∷ [] → Sent (all_due_copies again now (with_got memory came now old)) ys → Asks wait result old new (xs ++ ys)
asks_and_sends wait slice within came result old new again now memory hands kept xs ys one copies = record {
  slice = slice;
  within = within;
  gave = Ok came;
  rest = ys;
  are = ap (λ (zs : List Happened). zs ++ ys) one;
  after = record { again = again; now = now; memory = memory; hands_up = hands; kept = kept; copies = copies };
}

pub waits : (rank : ℕ) (bytes : List ℕ) (old new : Copies) (now : ℕ) (memory now_it : Bool) → new ≡ sent memory rank bytes now old → now_it ≡ is_sent_now rank bytes now old → not now_it ≡ true → GoesOrWaits rank bytes (Ok tt) old new []
waits rank bytes old new now memory now_it kept goes isnt = record {
  now = now;
  memory = memory;
  kept = kept;
  goes = subst (λ b. GoesNow b (Monitor rank) bytes (Ok tt) []) (sym (not_true now_it isnt) ∙ goes) (refl, refl);
}

pub goes_now : (rank : ℕ) (bytes : List ℕ) (result : Result (Unit {0}) Stop) (old new : Copies) (now : ℕ) (memory now_it : Bool) → new ≡ sent memory rank bytes now old → now_it ≡ is_sent_now rank bytes now old → not now_it ≡ false → GoesOrWaits rank bytes result old new (WasSent (Monitor rank) bytes result ∷ [])
goes_now rank bytes result old new now memory now_it kept goes is = record {
  now = now;
  memory = memory;
  kept = kept;
  goes = subst (λ b. GoesNow b (Monitor rank) bytes result (WasSent (Monitor rank) bytes result ∷ [])) (sym (not_false now_it is) ∙ goes) refl;
}

-- ---- one copy

pub none_due : (again : Bool) (now : ℕ) (o : Option Kept) (k : Kept) → o ≡ Some k → is_due again now k.note ≡ false → due_copy_at again now o ≡ []
none_due again now o k e isnt = ap (due_copy_at again now) e ∙ ap (λ (b : Bool). cond b (k.out ∷ []) []) isnt

pub one_due : (again : Bool) (now : ℕ) (o : Option Kept) (k : Kept) → o ≡ Some k → is_due again now k.note ≡ true → due_copy_at again now o ≡ k.out ∷ []
one_due again now o k e is = ap (due_copy_at again now) e ∙ ap (λ (b : Bool). cond b (k.out ∷ []) []) is
