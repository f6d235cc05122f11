-- A tick that ended: its sends are no receives, and the flags are those of its steps.
use Rattle.std.proofs.Common.{◌≡◌, refl, ap, ◌∙◌, arith, ℕ, Bool, true, false, List, [], ◌∷◌, map}
use Rattle.std.specs.Prelude.{◌||◌, zip, count_by}
use Rattle.ua_base.specs.Journal.{Sent, SendFailed}
use Rattle.pubsub_states.specs.declared.component.Component.TheVariants.{Root, Connection, Group, Writer, ReadGroup, Reader}
use Rattle.pubsub_states.specs.Changes.{TreeValue}
use Rattle.session_model.specs.Steps.{Plan, Step, Tick}
use Rattle.session_model.specs.Sends.{Send, send_entry}
use Rattle.session_model.specs.Lives.{Account, flags_by, stepped}
use Rattle.writer_group.specs.declared.sampled.Sampled.{Sampled}
use Rattle.session_model.specs.Answers.{counted}
use Rattle.session_model.specs.Closing.{is_got, is_broken, is_long}
use Rattle.session_model.proofs.Sending.{count-append, count-cons}
use Rattle.session_parts.specs.declared.receiving.Receiving.{Receiving}
use Rattle.session_parts.specs.Standing.{HasFlags, AreReceivesIn}
use Rattle.session_parts.specs.Ticking.{TickData, account_after, flags_in_tick, tick_sends}

-- ---- sends are no receives

no-got : (sends : List (Send × Bool)) → count_by is_got (map send_entry sends) ≡ 0
no-got [] = refl
no-got ((send, true) ∷ sends) = omega (arith, count-cons is_got (Sent send.datagram) (map send_entry sends), no-got sends)
no-got ((send, false) ∷ sends) = omega (arith, count-cons is_got SendFailed (map send_entry sends), no-got sends)

no-broken : (sends : List (Send × Bool)) → count_by is_broken (map send_entry sends) ≡ 0
no-broken [] = refl
no-broken ((send, true) ∷ sends) = omega (arith, count-cons is_broken (Sent send.datagram) (map send_entry sends), no-broken sends)
no-broken ((send, false) ∷ sends) = omega (arith, count-cons is_broken SendFailed (map send_entry sends), no-broken sends)

no-long : (sends : List (Send × Bool)) → count_by is_long (map send_entry sends) ≡ 0
no-long [] = refl
no-long ((send, true) ∷ sends) = omega (arith, count-cons is_long (Sent send.datagram) (map send_entry sends), no-long sends)
no-long ((send, false) ∷ sends) = omega (arith, count-cons is_long SendFailed (map send_entry sends), no-long sends)

pub receives-stay : (p : Plan) (before : List Step) (a : Account) (ms : ℕ) (closing : Bool) (samples : List Sampled) (done : List Bool) (receiving : Receiving)
    → AreReceivesIn a.journal before receiving → AreReceivesIn (stepped p before a (Tick ms closing samples done)).journal (Tick ms closing samples done ∷ before) receiving
receives-stay p before a ms closing samples done receiving are =
    let sends = zip (tick_sends p before a ms closing samples) done in record {
      received = are.received ∙ ap counted (omega (arith, count-append is_got a.journal (map send_entry sends), no-got sends));
      broken = are.broken ∙ ap counted (omega (arith, count-append is_broken a.journal (map send_entry sends), no-broken sends));
      long = are.long ∙ ap counted (omega (arith, count-append is_long a.journal (map send_entry sends), no-long sends));
      limit = are.limit;
    }

-- ---- the flags

pub flags-end : (t : TickData) (done : List Bool) (tree : TreeValue)
    → HasFlags (flags_in_tick t (account_after t done).deeds done) tree
    → HasFlags (flags_by t.plan.config (Tick t.ms t.closing t.samples done ∷ t.before) (account_after t done)) tree
flags-end t done tree flags Root among = flags Root among
flags-end t done tree flags Connection among = flags Connection among
flags-end t done tree flags (Group g) among = flags (Group g) among
flags-end t done tree flags (Writer g w) among = flags (Writer g w) among
flags-end t done tree flags (ReadGroup r) among = flags (ReadGroup r) among
flags-end t done tree flags (Reader r i) among = flags (Reader r i) among

-- ---- the closing

pub or-none : (b : Bool) → (b || false) ≡ b
or-none true = refl
or-none false = refl
