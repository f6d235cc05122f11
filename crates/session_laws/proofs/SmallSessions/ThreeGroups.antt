-- A session of a signed group, a fixed one and one whose frames come in chunks meets the premises.
use Rattle.std.proofs.Common.{◌≡◌, refl, arith, ℕ, lit<, inl, true, List, [], ◌∷◌, length}
use Rattle.std.specs.Prelude.{codes}
use Rattle.dataset_meta.specs.DataValues.{DataValue}
use Rattle.pubsub_model.specs.Cadence.{WriterTurn}
use Rattle.ps_config.specs.declared.parts.ReadGroupPart.{ReadGroupPart}
use Rattle.ps_config.specs.FixedSound.{IsFixedSound}
use Rattle.ps_config.specs.Sound.{IsSound}
use Rattle.ps_config.specs.Types.{HasTypes}
use Rattle.group_laws.specs.Witness.{cut_group, cut_readers, ones, reader_of, signed_group, signed_readers, slotted_group, slotted_readers, three_config}
use Rattle.session_model.specs.Keeping.{IsPlan}
use Rattle.session_model.specs.Sends.{sends_of}
use Rattle.session_model.specs.Steps.{Plan, Step}
use Rattle.session_laws.specs.Delivered.{sent_on}
use Rattle.session_laws.specs.Headline.{InSession}
use Rattle.session_laws.specs.Newest.{ClosingGot, ClosingGotSecured, HoldsClosing}
use Rattle.session_laws.specs.Reading.{IsMatchedIn}
use Rattle.session_laws.specs.Sessions.{AreVersions}
use Rattle.session_laws.specs.Telling.{HasRun}
use Rattle.session_laws.specs.Witness.{Coming, GotAll, IsNewestWhere, three_plan, three_rows, three_session}
use Rattle.session_laws.proofs.SmallSessions.OneTick as OneTick
use Rattle.session_laws.proofs.SmallSessions.OneTick.{closes, config, cut-came, cut-last, cut-took, in-session, in_tick, matched-to, own_at, past_at, plan, plan-is, sent, session, signed-came, signed-had, signed-took, slotted-came, slotted-last, slotted-took, turn_at, versions-are}

pub record ThreeLaws : Type 0 where
  pub sound : IsSound three_config
  pub fixed : IsFixedSound three_config
  pub types : HasTypes three_config

abbrev beside : List ReadGroupPart
beside = signed_readers ∷ slotted_readers ∷ cut_readers ∷ []

abbrev its : Plan
its = plan beside

pub its-plan : ThreeLaws → IsPlan its
unfolding three_config
its-plan laws = plan-is beside laws.sound laws.fixed laws.types

pub signed-matched : IsMatchedIn (config beside) 0 0 0 0
unfolding three_config signed_group signed_readers
signed-matched = matched-to (config beside) (codes "rg1") 1 signed_group (reader_of (codes "r1") 1 0 0) refl (inl refl) (record { within = lit< tt; id = refl; dataset = refl; offset = λ fixed. refl; size = λ fixed. refl })

slotted-matched : IsMatchedIn (config beside) 1 0 1 0
unfolding three_config slotted_group slotted_readers
slotted-matched = matched-to (config beside) (codes "rg2") 2 slotted_group (reader_of (codes "r2") 2 7 127) refl (inl refl) (record { within = lit< tt; id = refl; dataset = refl; offset = λ fixed. refl; size = λ fixed. refl })

cut-matched : IsMatchedIn (config beside) 2 0 2 0
unfolding three_config cut_group cut_readers
cut-matched = matched-to (config beside) (codes "rg3") 3 cut_group (reader_of (codes "r3") 3 0 0) refl (inl refl) (record { within = lit< tt; id = refl; dataset = refl; offset = λ fixed. refl; size = λ fixed. refl })

pub in-signed : ThreeLaws → InSession three_plan 0 0 0 0 three_session
unfolding three_plan three_config
in-signed laws = in-session beside (its-plan laws) 0 0 signed-matched

pub in-slotted : ThreeLaws → InSession three_plan 1 0 1 0 three_session
unfolding three_plan three_config
in-slotted laws = in-session beside (its-plan laws) 1 1 slotted-matched

pub in-cut : ThreeLaws → InSession three_plan 2 0 2 0 three_session
unfolding three_plan three_config
in-cut laws = in-session beside (its-plan laws) 2 2 cut-matched

pub versions-three : AreVersions three_plan three_session three_rows
unfolding three_plan three_config
versions-three = versions-are beside

-- ---- the closing frames that came, signed, in a slot and in chunks, are held

slotted-got : ClosingGot its 1 0 1 0 (session beside) (past_at beside 1) (turn_at beside 1) (own_at beside 1)
unfolding three_config slotted_readers
slotted-got = record {
  numbered = refl;
  unsecured = refl;
  last = slotted-last beside;
  start = sent beside;
  ends = closes beside 1 1 (slotted-took beside);
  came = λ datagram has part. slotted-came beside datagram has;
}

cut-got : ClosingGot its 2 0 2 0 (session beside) (past_at beside 2) (turn_at beside 2) (own_at beside 2)
unfolding three_config cut_readers
cut-got = record {
  numbered = refl;
  unsecured = refl;
  last = cut-last beside;
  start = sent beside;
  ends = closes beside 2 2 (cut-took beside);
  came = λ datagram has part. cut-came beside datagram has;
}

signed-got : ClosingGotSecured its 0 0 0 0 (session beside) (own_at beside 0)
unfolding three_config signed_readers
signed-got = record {
  numbered = refl;
  secured = refl;
  named = λ (e : 1 ≡ 0). absurd (omega (arith, e));
  tick = in_tick beside 0 0 (signed-had beside) (signed-took beside);
  came = λ datagram has part. signed-came beside datagram has;
}

-- what a clause of the law says of a closing turn that came so
abbrev pub NewestLaw : Coming → Type 0
NewestLaw Came =
    (p : Plan) (r i g w : ℕ) (steps : List Step) (rows : ℕ → ℕ → List DataValue) (own : WriterTurn) → InSession p r i g w steps → AreVersions p steps rows → Came p r i g w steps own
    → HoldsClosing p r i g w steps rows own.version

pub newest-where : (Came : Coming) (p : Plan) (r g : ℕ) (steps : List Step) (rows : ℕ → ℕ → List DataValue) (own : WriterTurn) → NewestLaw Came
    → InSession p r 0 g 0 steps → AreVersions p steps rows → Came p r 0 g 0 steps own → IsNewestWhere Came p r g steps rows
newest-where Came p r g steps rows own law is versions came = record { session = is; versions = versions; own = own; came = came; newest = law p r 0 g 0 steps rows own is versions came }

pub signed-newest : ThreeLaws → NewestLaw ClosingGotSecured → IsNewestWhere ClosingGotSecured three_plan 0 0 three_session three_rows
unfolding three_plan three_config
signed-newest laws law = newest-where ClosingGotSecured its 0 0 (session beside) three_rows (own_at beside 0) law (in-signed laws) versions-three signed-got

pub slotted-newest : ThreeLaws → NewestLaw GotAll → IsNewestWhere GotAll three_plan 1 1 three_session three_rows
unfolding three_plan three_config
slotted-newest laws law = newest-where GotAll its 1 1 (session beside) three_rows (own_at beside 1) law (in-slotted laws) versions-three (past_at beside 1, turn_at beside 1, slotted-got)

pub cut-newest : ThreeLaws → NewestLaw GotAll → IsNewestWhere GotAll three_plan 2 2 three_session three_rows
unfolding three_plan three_config
cut-newest laws law = newest-where GotAll its 2 2 (session beside) three_rows (own_at beside 2) law (in-cut laws) versions-three (past_at beside 2, turn_at beside 2, cut-got)

pub secured-held : ThreeLaws → NewestLaw ClosingGotSecured → HoldsClosing three_plan 0 0 0 0 three_session three_rows 1
unfolding three_plan three_config signed_group ones
secured-held laws law = law its 0 0 0 0 (session beside) three_rows (own_at beside 0) (in-signed laws) versions-three signed-got

pub slotted-held : ThreeLaws → NewestLaw GotAll → HoldsClosing three_plan 1 0 1 0 three_session three_rows 1
unfolding three_plan three_config slotted_group ones
slotted-held laws law = law its 1 0 1 0 (session beside) three_rows (own_at beside 1) (in-slotted laws) versions-three (past_at beside 1, turn_at beside 1, slotted-got)

pub cut-held : ThreeLaws → NewestLaw GotAll → HoldsClosing three_plan 2 0 2 0 three_session three_rows 1
unfolding three_plan three_config cut_group ones
cut-held laws law = law its 2 0 2 0 (session beside) three_rows (own_at beside 2) (in-cut laws) versions-three (past_at beside 2, turn_at beside 2, cut-got)

pub run-three : ThreeLaws → HasRun three_plan three_session three_rows
run-three laws = let is = in-signed laws in record { plan = is.plan; steps_are = is.steps_are; run = is.run; rise = is.rise; versions = versions-three }

-- one of the signed group, one of the fixed one, and two chunks
pub four-sends : length (sends_of three_plan (sent_on three_plan 0 true (ones ∷ []) [])) ≡ 4
unfolding three_plan three_config
four-sends = OneTick.four-sends beside
