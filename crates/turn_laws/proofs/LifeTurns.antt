-- All turns of a life, and that a guard with the keys of all its rings knows the senders of a group.
use Rattle.std.proofs.Common.{◌≡◌, sym, ap, ◌∙◌, subst, ℕ, ◌+◌, ◌<◌, Bool, List, [], ◌∷◌, length, map, Option, Some, All, Contains}
use Rattle.std.specs.Prelude.{◌==◌}
use Rattle.std.proofs.lemmas.List.Elements.{All-contains, All-contains_itself}
use Rattle.group_keys.specs.declared.key_set.KeySet.{KeySet}
use Rattle.message_guard.specs.declared.keys.TokenKeys.{TokenKeys}
use Rattle.message_guard.specs.Guards.{Setup}
use Rattle.message_guard.specs.Protection.{keys_in, keys_with}
use Rattle.message_guard.specs.Senders.{SenderState}
use Rattle.ps_config.specs.declared.parts.Config.{Config}
use Rattle.ps_config.specs.declared.parts.ReadGroupPart.{ReadGroupPart}
use Rattle.pubsub_states.specs.declared.component.Component.TheVariants.{Group}
use Rattle.reader_group.specs.Settings.{keygroup_at, setup_by}
use Rattle.writer_group.specs.declared.sampled.Sampled.{Sampled}
use Rattle.session_model.specs.Deeds.{Deed, component_at, sender_after, turn_of}
use Rattle.session_model.specs.Keeping.{AreStepsOf, IsPlan}
use Rattle.session_model.specs.Lives.{Lived, Renewed, Stepped, TurnsHoldIn, account_in, steps_in}
use Rattle.session_model.specs.Steps.{Plan, Step, Enable, Disable, Append, Tick, Pump, moment_of}
use Rattle.session_model.proofs.Deeds.{TickHolds}
use Rattle.session_laws.specs.Below.{RingLaw, WordLaws}
use Rattle.session_laws.proofs.Versions.LifeTicks.{life-tick}
use Rattle.turn_laws.specs.Lives.{FitPolicy, TokensNameKeys, sets_in_life}
use Rattle.turn_laws.proofs.LifeKeys.{Fits, HasKeysOf, HaveKeysOf, earlier-sets, have-below, have-came, have-open, have-renewed, have-set, have-turn, have-use, named-found, new-sets, sets-fit}
use Rattle.turn_laws.proofs.Rings.{AreRingTurns, KnowsSender, KnowsSenders}
use Rattle.turn_laws.proofs.Turns.{keyed-turn, written-turn}

-- the guard of a read group, with the keys of these sets
abbrev pub setup_of : Config → ReadGroupPart → List KeySet → Setup
setup_of config readers sets = record (setup_by config readers readers.keygroup) { keys = map keys_in sets }

knows-from : (config : Config) (readers : ReadGroupPart) (k : ℕ) (sets : List KeySet) (s : SenderState) → TokensNameKeys sets → readers.keygroup ≡ Some k → HasKeysOf (Contains sets) (keygroup_at config k) s → KnowsSender (setup_of config readers sets) s
knows-from config readers k sets s named reads from = record {
  keys = subst (λ (x : TokenKeys). keys_with (map keys_in sets) x.token ≡ Some x) (sym from.keys) (named-found sets from.set named from.of);
  first_block = ap (λ (o : Option ℕ). (setup_by config readers o).first_block) reads ∙ sym from.first_block;
}

-- a group of the key group k, and a read group with its keys, in a whole life
module _ (ring : RingLaw) (words : WordLaws) (most : ℕ) (p : Plan) (plan : IsPlan p) (whole : List Lived) (k g : ℕ) (fit : FitPolicy p.config k whole) (there : k < length p.config.keygroup) (readers : ReadGroupPart) (reads : readers.keygroup ≡ Some k)
    (named : TokensNameKeys (sets_in_life p.config k whole)) where
  -- one of the key group's
  abbrev IsOne : ℕ → KeySet → Type 0
  IsOne n set = Contains (sets_in_life p.config n whole) set

  one-fits : (set : KeySet) → IsOne k set → Fits p.config k set
  one-fits set has = All-contains (Fits p.config k) (sets_in_life p.config k whole) set (sets-fit p.config k whole plan.good.sound there fit) has

  abbrev setup : Setup
  setup = setup_of p.config readers (sets_in_life p.config k whole)

  record Kept (deeds : List Deed) : Type 0 where
    keys : HaveKeysOf IsOne p.config deeds
    turns : AreRingTurns p.config k deeds
    known : KnowsSenders p.config setup k g deeds

  kept-tick : (before : List Step) (now : ℕ) (closing : Bool) (samples : List Sampled) → AreStepsOf most p before → TickHolds p before now closing samples Kept
  kept-tick before now closing samples are = record {
    came = λ earlier h. record { keys = have-came IsOne p.config now earlier h.keys; turns = h.turns; known = h.known };
    fresh = λ other earlier h. record { keys = have-below IsOne p.config (Group other) earlier h.keys; turns = h.turns; known = h.known };
    turn = λ other earlier here has holds h. record {
      keys = have-turn IsOne p.config other (turn_of p before now closing samples earlier other) earlier h.keys;
      turns = (
        written-turn words most p before now closing samples earlier other plan are here holds,
        (λ keyed. keyed-turn words most p before now closing samples earlier other plan are here (IsOne k) k one-fits holds has keyed (have-use IsOne p.config earlier k h.keys there)),
        h.turns,
      );
      known = (
        λ same. knows-from p.config readers k (sets_in_life p.config k whole) (sender_after p.config k earlier) named reads (have-use IsOne p.config earlier k h.keys there),
        h.known,
      );
    };
  }

  life-kept : (life : List Lived) → AreStepsOf most p (steps_in life) → TurnsHoldIn p life → ((n : ℕ) → All (IsOne n) (sets_in_life p.config n life)) → Kept (account_in p life).deeds
  life-kept [] are hold ones = record { keys = have-open IsOne p.config ring plan.good.sound plan.types ones; turns = tt; known = tt }
  life-kept (Stepped (Enable id) ∷ before) are hold ones =
      let h = life-kept before are.1 hold.1 ones in record { keys = have-below IsOne p.config (component_at p.config id) (account_in p before).deeds h.keys; turns = h.turns; known = h.known }
  life-kept (Stepped (Disable id) ∷ before) are hold ones = life-kept before are.1 hold.1 ones
  life-kept (Stepped (Append set field) ∷ before) are hold ones =
      let h = life-kept before are.1 hold.1 ones in record { keys = have-set IsOne p.config set (account_in p before).deeds h.keys; turns = h.turns; known = h.known }
  life-kept (Stepped (Tick ms closing samples done) ∷ before) are hold ones =
      let now = moment_of (steps_in before) + ms in
      life-tick p (steps_in before) now closing samples (account_in p before).deeds Kept (kept-tick (steps_in before) now closing samples are.1) hold.0 (life-kept before are.1 hold.1 ones)
  life-kept (Stepped (Pump entries) ∷ before) are hold ones = life-kept before are.1 hold.1 ones
  life-kept (Renewed keygroup sets ∷ before) are hold ones =
      let h = life-kept before are hold (λ n. earlier-sets (IsOne n) (keygroup == n) sets (sets_in_life p.config n before) (ones n)) in
      record {
        keys = have-renewed IsOne p.config keygroup sets (account_in p before).deeds (λ n is. new-sets (IsOne n) (keygroup == n) sets (sets_in_life p.config n before) is (ones n)) h.keys;
        turns = h.turns;
        known = h.known;
      }

  abbrev ones : (n : ℕ) → All (IsOne n) (sets_in_life p.config n whole)
  ones n = All-contains_itself (sets_in_life p.config n whole)

  pub life-turns : AreStepsOf most p (steps_in whole) → TurnsHoldIn p whole → AreRingTurns p.config k (account_in p whole).deeds
  life-turns are hold = (life-kept whole are hold ones).turns

  pub life-knows : AreStepsOf most p (steps_in whole) → TurnsHoldIn p whole → KnowsSenders p.config setup k g (account_in p whole).deeds
  life-knows are hold = (life-kept whole are hold ones).known
