-- What a requester does at a cookie, and if there is none.
use Rattle.std.proofs.Common.{◌≡◌, ℕ, Bool, true, false, not, ◌&&◌, ◌||◌, cond, ltb, [], Some, Result, Ok, refl, ◌∙◌}
use Rattle.mon_msg.specs.Protocol.Copying.{awaits_cookie, first_place, hear_cookie, hear_no_cookie, same_flag, start_chunks}
use Rattle.mon_msg.specs.Protocol.Course.{Course, requester_is}
use Rattle.mon_msg.specs.Protocol.Entering.{bootstrap}
use Rattle.mon_msg.specs.Protocol.Places.{is_cookie, no_cookie, same_cookie}
use Rattle.mon_msg.specs.Protocol.Readings.{Readings, epoch_of}
use Rattle.mon_msg.specs.declared.synchronization.Requester.{Requester}
use Rattle.mon_msg.specs.declared.synchronization.SyncStage.TheVariants as sync
use Rattle.mon_msg.specs.declared.view.Me.{Me}
use Rattle.mon_plan.specs.Plans.{done}
use Rattle.mon_types.specs.declared.names.Which.{Which}
use Rattle.mon_wire.specs.declared.parts.Cookie.{Cookie}
use Rattle.mon_wire.specs.declared.parts.Place.{Place}
use Rattle.sync_requester.specs.Rows.{IsHeard}
use Rattle.sync_requester.proofs.Planned.{along, asks_chunk}

-- what is remembered as chunks begin
abbrev pub started : Cookie → Place → Requester → Requester
started c p s = record s { stage = sync.Chunks; cookie = Some c; start = p.version; place = p }

module _ (w : Readings) (s : Requester) (f : ℕ) (x : Course) (b : IsHeard w s f x) (me : Me) (now : ℕ) where
  module _ (full : Bool) (c : Cookie) (last : ℕ) where
    abbrev pub refused : Readings → Requester → Bool
    refused w s = not (awaits_cookie s.stage && same_flag full s.full) || (full && ltb last w.floor)

    abbrev starts : Result Course Which
    starts = Ok (start_chunks me now c (first_place full last x.readings.last) x)

    abbrev by_provider : Bool → Result Course Which
    by_provider ours = cond (not (ours && awaits_cookie x.state.requester.stage && same_flag full x.state.requester.full) || (full && ltb last x.readings.floor)) (Ok x) starts

    choice : (t : Bool) → refused w s ≡ t → hear_cookie me now f full c last x ≡ cond t (Ok x) starts
    unfolding hear_cookie
    choice t h = (λ i. by_provider (b.ours i)) ∙ (λ i. cond (refused (b.readings i) (b.role i)) (Ok x) starts) ∙ (λ i. cond (h i) (Ok x) starts)

    pub cookie-refused : refused w s ≡ true → hear_cookie me now f full c last x ≡ Ok x
    cookie-refused h = choice true h

    abbrev pub taking : Readings → Requester → Result Course Which
    taking w s = Ok (done requester_is [] (asks_chunk me now [] c (started c (first_place full last w.last) s) (epoch_of w)) x)

    pub cookie-taken : refused w s ≡ false → hear_cookie me now f full c last x ≡ taking w s
    cookie-taken h = choice false h ∙ along w s x b.readings b.role (λ w s. starts ≡ taking w s) refl

  module _ (c : Cookie) where
    abbrev pub lost : Requester → Bool
    lost s = is_cookie c s.cookie || (awaits_cookie s.stage && not s.full && same_cookie c no_cookie)

    abbrev ends : Bool → Bool → Result Course Which
    ends ours l = cond (ours && l) (bootstrap me now x) (Ok x)

    pub no_cookie-is : (t : Bool) → lost s ≡ t → hear_no_cookie me now f c x ≡ cond t (bootstrap me now x) (Ok x)
    unfolding hear_no_cookie
    no_cookie-is t h = (λ i. ends (b.ours i) (lost x.state.requester)) ∙ (λ i. ends true (lost (b.role i))) ∙ (λ i. ends true (h i))
