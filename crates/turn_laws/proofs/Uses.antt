-- What the groups of a key group sent is what its own sender made.
use Rattle.std.proofs.Common.{◌≡◌, refl, sym, ap, ◌∙◌, subst, arith, ℕ, suc, ◌+◌, ◌<◌, Bool, true, false, List, [], ◌∷◌, ◌++◌, length, Option, Some, None, AllPairs, append_assoc, eqb-true}
use Rattle.std.specs.Prelude.{◌==◌, option_map}
use Rattle.std.specs.Option.{option_map_or}
use Rattle.std.proofs.lemmas.List.{append-nil}
use Rattle.group_keys.specs.declared.key_set.KeySet.{KeySet}
use Rattle.message_guard.specs.Senders.{IsSender, HaveOtherNumbers, SenderState, renewed, turned}
use Rattle.ps_config.specs.declared.parts.Config.{Config}
use Rattle.ps_config.specs.declared.parts.GroupPart.{GroupPart}
use Rattle.ps_config.specs.Headers.{is_secured, mode_of}
use Rattle.ps_config.specs.Sound.{IsKeyed}
use Rattle.pubsub_states.specs.declared.component.Component.{Component}
use Rattle.pubsub_states.specs.declared.component.Component.TheVariants.{Group}
use Rattle.reader_group.specs.Settings.{keygroup_at, no_keygroup}
use Rattle.writer_group.specs.declared.sampled.Sampled.{Sampled}
use Rattle.writer_group.specs.Parts.{group_at}
use Rattle.writer_group.specs.Payloads.{payloads_of}
use Rattle.writer_group.specs.Sealing.{AreWritten, Envelope, Payload, advanced_by, datagrams_from}
use Rattle.writer_group.specs.Sharing.{AreUses, CanMake, SenderUse, Made, Moved, Renewed, after_turn, datagrams_by}
use Rattle.writer_group.specs.Turns.{GroupTurn, envelope_of, frames_in, turn_datagrams}
use Rattle.session_model.specs.Deeds.{Deed, RefreshedBelow, RefreshedSet, CameTo, TookTurn, RenewedKeys, advanced_if, component_at, deeds, group_past, has_turn, opening_sender, renewed_if, sender_after, shares, turn_input, turn_of}
use Rattle.session_model.specs.Keeping.{IsPlan}
use Rattle.session_model.specs.Lives as lives
use Rattle.session_model.specs.Lives.{Lived, Stepped, TurnsHoldIn, account_in, steps_in}
use Rattle.session_model.specs.Steps.{Plan, Step, Enable, Disable, Append, Tick, Pump, moment_of}
use Rattle.session_model.specs.Turns.{HoldsTurn, TurnsHold}
use Rattle.session_model.proofs.Deeds.{TickHolds, tick-holds}
use Rattle.session_laws.specs.Fresh.{append_if, protected_in}
use Rattle.session_laws.proofs.Versions.LifeTicks.{life-tick}
use Rattle.session_laws.proofs.Versions.Numbers.{OnceLaw}
use Rattle.session_laws.proofs.Versions.Senders.{group-keyed, left-by, not-spent}
use Rattle.turn_laws.specs.Makers.{HasOneSender, sender_by}
use Rattle.turn_laws.proofs.Rings.{same-mode}

-- ---- one use more

sender-more : (s : SenderState) (uses more : List SenderUse) → sender_by s (uses ++ more) ≡ sender_by (sender_by s uses) more
sender-more s [] more = refl
sender-more s (Moved now ∷ uses) more = sender-more (turned s now) uses more
sender-more s (Renewed sets ∷ uses) more = sender-more (renewed s sets) uses more
sender-more s (Made envelope payloads ∷ uses) more = sender-more (after_turn s envelope payloads) uses more

made-more : (s : SenderState) (uses more : List SenderUse) → datagrams_by s (uses ++ more) ≡ datagrams_by s uses ++ datagrams_by (sender_by s uses) more
made-more s [] more = refl
made-more s (Moved now ∷ uses) more = made-more (turned s now) uses more
made-more s (Renewed sets ∷ uses) more = made-more (renewed s sets) uses more
made-more s (Made envelope payloads ∷ uses) more =
    ap (λ (l : List (List ℕ)). datagrams_from envelope (Some s) 0 payloads ++ l) (made-more (after_turn s envelope payloads) uses more)
    ∙ sym (append_assoc (datagrams_from envelope (Some s) 0 payloads) (datagrams_by (after_turn s envelope payloads) uses) (datagrams_by (sender_by (after_turn s envelope payloads) uses) more))

uses-more : (s : SenderState) (uses more : List SenderUse) → AreUses s uses → AreUses (sender_by s uses) more → AreUses s (uses ++ more)
uses-more s [] more are also = also
uses-more s (Moved now ∷ uses) more are also = uses-more (turned s now) uses more are also
uses-more s (Renewed sets ∷ uses) more are also = uses-more (renewed s sets) uses more are also
uses-more s (Made envelope payloads ∷ uses) more are also = (are.0, uses-more (after_turn s envelope payloads) uses more are.1 also)

many-made : (e : Envelope) (sender : Option SenderState) (from : ℕ) (payloads : List Payload) → length (datagrams_from e sender from payloads) ≡ length payloads
many-made e sender from [] = refl
many-made e sender from (payload ∷ payloads) = ap suc (many-made e sender (from + 1) payloads)

shared-by : (group : GroupPart) (k : ℕ) → shares group k ≡ true → group.keygroup ≡ Some k
shared-by group k e = on group.keygroup e
  where
    on : (o : Option ℕ) → option_map_or (λ (other : ℕ). other == k) o false ≡ true → o ≡ Some k
    on None e = absurd (cc)
    on (Some other) e = ap (λ (n : ℕ). Some n) (eqb-true other k e)

-- ---- of a key group

module _ (config : Config) (k : ℕ) where
  abbrev opening : SenderState
  opening = opening_sender (keygroup_at config k)

  record HasUses (deeds : List Deed) : Type 0 where
    uses : List SenderUse
    are : AreUses opening uses
    made : datagrams_by opening uses ≡ protected_in config k deeds
    own : sender_by opening uses ≡ sender_after config k deeds

  uses-none : HasUses []
  uses-none = record { uses = []; are = tt; made = refl; own = refl }

  uses-came : (now : ℕ) (earlier : List Deed) → HasUses earlier → HasUses (CameTo now ∷ earlier)
  uses-came now earlier h = record {
    uses = h.uses ++ Moved now ∷ [];
    are = uses-more opening h.uses (Moved now ∷ []) h.are tt;
    made = made-more opening h.uses (Moved now ∷ []) ∙ append-nil (datagrams_by opening h.uses) ∙ h.made;
    own = sender-more opening h.uses (Moved now ∷ []) ∙ ap (λ (s : SenderState). turned s now) h.own;
  }

  uses-below : (component : Component) (earlier : List Deed) → HasUses earlier → HasUses (RefreshedBelow component ∷ earlier)
  uses-below component earlier h = record { uses = h.uses; are = h.are; made = h.made; own = h.own }

  uses-set : (set : ℕ) (earlier : List Deed) → HasUses earlier → HasUses (RefreshedSet set ∷ earlier)
  uses-set set earlier h = record { uses = h.uses; are = h.are; made = h.made; own = h.own }

  uses-renewed : (keygroup : ℕ) (sets : List KeySet) (b : Bool) → (keygroup == k) ≡ b → (earlier : List Deed) → HasUses earlier → HasUses (RenewedKeys keygroup sets ∷ earlier)
  uses-renewed keygroup sets false e earlier h =
      record { uses = h.uses; are = h.are; made = h.made; own = h.own ∙ sym (ap (λ (b : Bool). renewed_if b sets (sender_after config k earlier)) e) }
  uses-renewed keygroup sets true e earlier h = record {
    uses = h.uses ++ Renewed sets ∷ [];
    are = uses-more opening h.uses (Renewed sets ∷ []) h.are tt;
    made = made-more opening h.uses (Renewed sets ∷ []) ∙ append-nil (datagrams_by opening h.uses) ∙ h.made;
    own = sender-more opening h.uses (Renewed sets ∷ []) ∙ ap (λ (s : SenderState). renewed s sets) h.own
        ∙ sym (ap (λ (b : Bool). renewed_if b sets (sender_after config k earlier)) e);
  }

  -- a turn of a group that the key group doesn't secure
  uses-other : (g : ℕ) (turn : GroupTurn) (earlier : List Deed) → shares (group_at config g) k ≡ false → HasUses earlier → HasUses (TookTurn g turn ∷ earlier)
  uses-other g turn earlier e h = record {
    uses = h.uses;
    are = h.are;
    made = h.made ∙ sym (ap (λ (b : Bool). append_if b (protected_in config k earlier) turn.made) e);
    own = h.own ∙ sym (ap (λ (b : Bool). advanced_if b (mode_of (group_at config g).security) (length turn.made) (sender_after config k earlier)) e);
  }

  -- of one that it does
  uses-turn : (g : ℕ) (turn : GroupTurn) (earlier : List Deed) (payloads : List Payload) → shares (group_at config g) k ≡ true
      → (let own = sender_after config k earlier in let envelope = envelope_of config (group_at config g) (group_past config g earlier) in
      CanMake own envelope payloads → turn.made ≡ datagrams_from envelope (Some own) 0 payloads → HasUses earlier → HasUses (TookTurn g turn ∷ earlier))
  uses-turn g turn earlier payloads e can made h =
      let own = sender_after config k earlier in
      let envelope = envelope_of config (group_at config g) (group_past config g earlier) in
      let more = Made envelope payloads ∷ [] in
      let mode = mode_of (group_at config g).security in
      let count : length payloads ≡ length turn.made = sym (many-made envelope (Some own) 0 payloads) ∙ ap (λ (l : List (List ℕ)). length l) (sym made) in
      record {
        uses = h.uses ++ more;
        are = uses-more opening h.uses more h.are (subst (λ (s : SenderState). AreUses s more) (sym h.own) (can, tt));
        made = made-more opening h.uses more
            ∙ ap (λ (s : SenderState). datagrams_by opening h.uses ++ datagrams_by s more) h.own
            ∙ ap (λ (l : List (List ℕ)). datagrams_by opening h.uses ++ l) (append-nil (datagrams_from envelope (Some own) 0 payloads) ∙ sym made)
            ∙ ap (λ (l : List (List ℕ)). l ++ turn.made) h.made
            ∙ sym (ap (λ (b : Bool). append_if b (protected_in config k earlier) turn.made) e);
        own = sender-more opening h.uses more
            ∙ ap (λ (s : SenderState). after_turn s envelope payloads) h.own
            ∙ ap (advanced_by mode own) count
            ∙ sym (ap (λ (b : Bool). advanced_if b mode (length turn.made) own) e);
      }

-- ---- of a session and a life

module _ (p : Plan) (k : ℕ) (plan : IsPlan p) where
  abbrev Uses : List Deed → Type 0
  Uses deeds = HasUses p.config k deeds

  tick-uses : (before : List Step) (now : ℕ) (closing : Bool) (samples : List Sampled) → TickHolds p before now closing samples Uses
  tick-uses before now closing samples = record {
    came = λ earlier h. uses-came p.config k now earlier h;
    fresh = λ g earlier h. uses-below p.config k (Group g) earlier h;
    turn = λ g earlier there has holds h. by g earlier there has holds h (shares (group_at p.config g) k) refl;
  }
    where
      by : (g : ℕ) (earlier : List Deed) → g < length p.config.group → has_turn p before now closing earlier g ≡ true
          → HoldsTurn p.config (group_at p.config g) (group_past p.config g earlier) (turn_input p before now closing samples earlier g) → Uses earlier
          → (b : Bool) → shares (group_at p.config g) k ≡ b → Uses (TookTurn g (turn_of p before now closing samples earlier g) ∷ earlier)
      by g earlier there has holds h false e = uses-other p.config k g (turn_of p before now closing samples earlier g) earlier e h
      by g earlier there has holds h true e =
          let group = group_at p.config g in
          let past = group_past p.config g earlier in
          let input = turn_input p before now closing samples earlier g in
          let own = sender_after p.config k earlier in
          let envelope = envelope_of p.config group past in
          let payloads = payloads_of p.config group (frames_in group past input) in
          let keyed = shared-by group k e in
          let sender : input.sender ≡ Some own = ap (option_map (λ (n : ℕ). sender_after p.config n earlier)) keyed in
          let count : length payloads ≡ length (turn_datagrams p.config group past input) = sym (many-made envelope input.sender 0 payloads) in
          let secured = (subst (IsKeyed p.config (is_secured group.security)) keyed (group-keyed p.config g plan.good.sound there)).keyed in
          let few = holds.few in
          let left = left-by p.config g k (length payloads) earlier keyed (not-spent p before now closing earlier g has) (omega (arith, few, count)) in
          let written = subst (λ (o : Option SenderState). AreWritten envelope o 0 payloads) sender holds.written in
          let can : CanMake own envelope payloads = record { secured = same-mode group.security ∙ secured; numbers = omega (arith, left); written = written } in
          uses-turn p.config k g (turn_of p before now closing samples earlier g) earlier payloads e can (ap (λ (o : Option SenderState). datagrams_from envelope o 0 payloads) sender) h

  session-uses : (steps : List Step) → TurnsHold p steps → Uses (deeds p steps)
  session-uses [] hold = uses-none p.config k
  session-uses (Enable id ∷ before) hold = uses-below p.config k (component_at p.config id) (deeds p before) (session-uses before hold)
  session-uses (Disable id ∷ before) hold = session-uses before hold
  session-uses (Append set field ∷ before) hold = uses-set p.config k set (deeds p before) (session-uses before hold)
  session-uses (Tick ms closing samples done ∷ before) hold =
      let now = moment_of before + ms in tick-holds p before now closing samples Uses (tick-uses before now closing samples) hold.0 (session-uses before hold.1)
  session-uses (Pump entries ∷ before) hold = session-uses before hold

  life-uses : (life : List Lived) → TurnsHoldIn p life → Uses (account_in p life).deeds
  life-uses [] hold = uses-none p.config k
  life-uses (Stepped (Enable id) ∷ before) hold = uses-below p.config k (component_at p.config id) (account_in p before).deeds (life-uses before hold.1)
  life-uses (Stepped (Disable id) ∷ before) hold = life-uses before hold.1
  life-uses (Stepped (Append set field) ∷ before) hold = uses-set p.config k set (account_in p before).deeds (life-uses before hold.1)
  life-uses (Stepped (Tick ms closing samples done) ∷ before) hold =
      let now = moment_of (steps_in before) + ms in
      life-tick p (steps_in before) now closing samples (account_in p before).deeds Uses (tick-uses (steps_in before) now closing samples) hold.0 (life-uses before hold.1)
  life-uses (Stepped (Pump entries) ∷ before) hold = life-uses before hold.1
  life-uses (lives.Renewed keygroup sets ∷ before) hold = uses-renewed p.config k keygroup sets (keygroup == k) refl (account_in p before).deeds (life-uses before hold)

  -- ---- its sender

  one-sender : OnceLaw → k < length p.config.keygroup → (deeds : List Deed) → Uses deeds → HasOneSender p.config k deeds
  one-sender twice there deeds h =
      let types = plan.types.keygroups k no_keygroup there in
      let begun = opening_sender (keygroup_at p.config k) in
      let is : IsSender begun = record { random = types.random; used = types.used } in
      record { uses = h.uses; are = h.are; made = h.made; own = h.own; once = subst (AllPairs HaveOtherNumbers) h.made (twice begun h.uses is h.are) }

pub session-sender : OnceLaw → (p : Plan) (k : ℕ) (steps : List Step) → IsPlan p → TurnsHold p steps → k < length p.config.keygroup → HasOneSender p.config k (deeds p steps)
session-sender twice p k steps plan hold there = one-sender p k plan twice there (deeds p steps) (session-uses p k plan steps hold)

pub life-sender : OnceLaw → (p : Plan) (k : ℕ) (life : List Lived) → IsPlan p → TurnsHoldIn p life → k < length p.config.keygroup → HasOneSender p.config k (account_in p life).deeds
life-sender twice p k life plan hold there = one-sender p k plan twice there (account_in p life).deeds (life-uses p k plan life hold)
