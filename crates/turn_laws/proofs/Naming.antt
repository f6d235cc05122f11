-- Where the numbers rise with the places, 16 bits name a place in the datagram that it was sent with.
use Rattle.std.proofs.Common.{◌≡◌, refl, ap, ◌∙◌, subst, arith, ℕ, zero, suc, ◌+◌, ◌<◌, ◌≤◌, Bool, true, false, List, [], ◌∷◌, Contains, eqb-true}
use Rattle.std.specs.Prelude.{◌==◌, ◌≢◌, if◌then◌else◌}
use Rattle.std.proofs.lemmas.Bool.Decides.{nat_tests}
use Rattle.seq_number.specs.Numbers.{number_of_place, place_from}
use Rattle.seq_number.proofs.NumberLaws.{place_from-number}
use Rattle.pubsub_model.proofs.CadenceLaws.{length-log_of}
use Rattle.reader_group.specs.Agreeing.{RiseTogether, SendsRise}
use Rattle.reader_group.proofs.Pairs.{together-rise}
use Rattle.writer_group.specs.Parts.{group_at}
use Rattle.session_model.specs.Deeds.{deeds, group_past, writer_deeds}
use Rattle.session_model.specs.Keeping.{AreStepsOf, IsPlan}
use Rattle.session_model.specs.Steps.{Plan, Step}
use Rattle.session_model.proofs.Lasting.{ticks-few}
use Rattle.session_model.proofs.Ticks.{log-few}
use Rattle.session_laws.specs.Pasts.{settings_at}
use Rattle.session_laws.specs.Reading.{first_number_of}
use Rattle.turn_laws.specs.Makers.{IsWriterUnder}
use Rattle.turn_laws.specs.Sent.{NamesPlaces, place_near, place_with, sends_in, sent_in}
use Rattle.turn_laws.proofs.Places.{next_of}
use Rattle.turn_laws.proofs.Rising.{has-behind, has-head, spanned-at}
use Rattle.turn_laws.proofs.Sharing.{steps-risen}

-- the place that is found with a number that was sent was sent with it
found-there : (number own : ℕ) (pair : ℕ × ℕ) (pairs : List (ℕ × ℕ)) (b : Bool) → (pair.0 == number) ≡ b → Contains (pair ∷ pairs) (number, own) → (Contains pairs (number, own) → Contains pairs (number, place_with number pairs))
    → Contains (pair ∷ pairs) (number, (if b then pair.1 else place_with number pairs))
found-there number own pair pairs true e has rest = subst (λ (n : ℕ). Contains (pair ∷ pairs) (n, pair.1)) (eqb-true pair.0 number e) (has-head pair pairs)
found-there number own pair pairs false e (zero, below, same) rest =
    let at : pair.0 ≡ number = ap (λ (p : ℕ × ℕ). p.0) same in
    let differ : pair.0 ≢ number = grind (arith, nat_tests, e) in
    absurd (differ at)
found-there number own pair pairs false e (suc k, below, same) rest = has-behind pair pairs (number, place_with number pairs) (rest (k, omega (arith, below), same))

with-has : (number own : ℕ) (pairs : List (ℕ × ℕ)) → Contains pairs (number, own) → Contains pairs (number, place_with number pairs)
with-has number own [] has = absurd (let below = has.1 in omega (arith, below))
with-has number own (pair ∷ pairs) has = found-there number own pair pairs (pair.0 == number) refl has (λ more. with-has number own pairs more)

-- it is the only one
with-is : (number own : ℕ) (pairs : List (ℕ × ℕ)) → RiseTogether pairs → Contains pairs (number, own) → place_with number pairs ≡ own
with-is number own pairs rise has =
    let found = with-has number own pairs has in
    let up = together-rise pairs rise (number, own) (number, place_with number pairs) has found (omega arith) in
    let down = together-rise pairs rise (number, place_with number pairs) (number, own) found has (omega arith) in
    let low : own ≤ place_with number pairs = up.0 in
    let high : place_with number pairs ≤ own = down.0 in
    omega (arith, low, high)

pub near-names : (sent : ℕ → List (ℕ × ℕ)) → SendsRise sent → NamesPlaces (place_near sent) sent
near-names sent rise = λ token number own has.
    ap (λ (n : ℕ). place_from n (number_of_place own)) (with-is number own (sent token) (rise token) has) ∙ place_from-number own own (omega arith) (omega arith)

way-numbers : (first n : ℕ) → number_of_place (place_from first n) ≡ number_of_place n
way-numbers first n = omega arith

pub near-numbers : (sent : ℕ → List (ℕ × ℕ)) (token number own : ℕ) → number_of_place (place_near sent token number own) ≡ number_of_place own
near-numbers sent token number own = way-numbers (place_with number (sent token)) own

-- ---- in a session of few ticks the places are those from the writer's first number on

pub first-names : (most : ℕ) (p : Plan) (k g w : ℕ) (steps : List Step) → IsPlan p → IsWriterUnder p.config k g w → AreStepsOf most p steps → most < 65536
    → NamesPlaces (λ token number. place_from (first_number_of p.config g w)) (sends_in p.config k g w (deeds p steps))
first-names most p k g w steps plan under are short = λ token number own has.
    let s = settings_at (group_at p.config g) w in
    let first = first_number_of p.config g w in
    let next = next_of (group_at p.config g) w (group_past p.config g (deeds p steps)) in
    let came = ticks-few most p steps are in
    let ticks = log-few p g w steps in
    let count = length-log_of s (writer_deeds p g w steps) in
    let few : next ≤ first + most + 1 = omega (arith, came, ticks, count) in
    let risen = steps-risen p k g w plan under.there under.within under.keyed steps in
    let span = spanned-at s.first_number next (sent_in p.config k g w token (deeds p steps)) (number, own) (risen.spans token) has in
    let low : first ≤ own = span.0 in
    let high : own < next = span.1 in
    place_from-number first own low (omega (arith, high, few, short))
