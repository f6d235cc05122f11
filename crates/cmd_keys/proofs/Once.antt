-- A configuration has one text.
use Rattle.std.proofs.Common.{◌≡◌, ℕ, Bool, List, ◌++◌, Option, Some, None, option_and_then, Result, Ok, Err, refl, sym, ap, subst, ◌∙◌, arith}
use Rattle.std.specs.Prelude.{codes, slice_index}
use Rattle.group_keys.specs.declared.key_set.KeySet.{KeySet}
use Rattle.group_keys.specs.declared.ring.Ring.{Ring}
use Rattle.group_keys.specs.KeySets.{tokens}
use Rattle.group_keys.specs.Ring.{is_long, key_sets}
use Rattle.key_service.specs.declared.service.Keys.{Keys}
use Rattle.key_service.specs.declared.service_fault.ServiceFault.{ServiceFault}
use Rattle.key_service.specs.declared.service_fault.ServiceFault.TheVariants.{TooFew, NotConsecutive, Uneven}
use Rattle.key_service.specs.Answers.{answer, answered, next_of}
use Rattle.key_service.specs.Services.{IsServed, Refuses, lifetime_of}
use Rattle.ps_config.specs.declared.parts.Config.{Config}
use Rattle.ps_config.specs.declared.parts.KeyGroupPart.{KeyGroupPart}
use Rattle.ps_report.specs.Lines.{feed}
use Rattle.ps_report.specs.Reports.{end_line}
use Rattle.cmd_keys.specs.declared.refusal.Refusal.{Refusal}
use Rattle.cmd_keys.specs.declared.refusal.Refusal.TheVariants.{NotFound, Unserved}
use Rattle.cmd_keys.specs.declared.words.Asked.{Asked}
use Rattle.cmd_keys.specs.Answers.{IsAnswerOf, IsGroupAnswer, group_named}
use Rattle.cmd_keys.specs.Ends.{TellsAnswer}
use Rattle.cmd_keys.specs.Texts.{keys_text, refusal_name}

-- an answer goes by the policy and the sets of the ring
abbrev answer_by : Bool → List KeySet → ℕ → ℕ → ℕ → Keys
answer_by long sets now start count = record {
  long = long;
  first = slice_index (tokens (answered sets now start count)) 0;
  keys = record { items = answered sets now start count };
  next = next_of sets now;
  lifetime = lifetime_of sets;
}

same_answer : (a b : Ring) (now start count : ℕ) → is_long a ≡ is_long b → key_sets a ≡ key_sets b → answer a now start count ≡ answer b now start count
same_answer a b now start count long sets =
    ap (λ (l : Bool). answer_by l (key_sets a) now start count) long ∙ ap (λ (s : List KeySet). answer_by (is_long b) s now start count) sets

not_both : (sets : List KeySet) (fault : ServiceFault) → IsServed sets → Refuses sets fault → ⊥
not_both sets TooFew served refused = omega (arith, served.two, refused)
not_both sets (NotConsecutive index) served refused = served.consecutive index refused.1.here
not_both sets (Uneven index) served refused = served.even index refused.2.here

one_name : (sets : List KeySet) (a b : ServiceFault) → Refuses sets a → Refuses sets b → refusal_name (Unserved a) ≡ refusal_name (Unserved b)
one_name sets TooFew TooFew x y = refl
one_name sets TooFew (NotConsecutive j) x y = absurd (omega (arith, x, y.0))
one_name sets TooFew (Uneven j) x y = absurd (omega (arith, x, y.0))
one_name sets (NotConsecutive i) TooFew x y = absurd (omega (arith, y, x.0))
one_name sets (NotConsecutive i) (NotConsecutive j) x y = refl
one_name sets (NotConsecutive i) (Uneven j) x y = absurd (y.1 i x.1.here)
one_name sets (Uneven i) TooFew x y = absurd (omega (arith, y, x.0))
one_name sets (Uneven i) (NotConsecutive j) x y = absurd (x.1 j y.1.here)
one_name sets (Uneven i) (Uneven j) x y = refl

one_service : (a b : Ring) (asked : Asked) (x y : Result Keys Refusal) → is_long a ≡ is_long b → key_sets a ≡ key_sets b → IsAnswerOf a asked x → IsAnswerOf b asked y
    → keys_text asked.start x ≡ keys_text asked.start y
one_service a b asked (Ok k) (Ok l) long sets is also =
    ap (λ (keys : Keys). keys_text asked.start (Ok keys)) (is.1 ∙ same_answer a b asked.moment asked.start asked.count long sets ∙ sym also.1)
one_service a b asked (Ok k) (Err (Unserved fault)) long sets is also =
    absurd (not_both (key_sets a) fault is.0 (subst (λ (s : List KeySet). Refuses s fault) (sym sets) also))
one_service a b asked (Ok k) (Err NotFound) long sets is also = absurd also
one_service a b asked (Err (Unserved fault)) (Ok l) long sets is also =
    absurd (not_both (key_sets b) fault also.0 (subst (λ (s : List KeySet). Refuses s fault) sets is))
one_service a b asked (Err (Unserved f)) (Err (Unserved g)) long sets is also =
    ap (λ (name : List ℕ). codes "refused " ++ name ++ feed ++ end_line) (one_name (key_sets b) f g (subst (λ (s : List KeySet). Refuses s f) sets is) also)
one_service a b asked (Err (Unserved f)) (Err NotFound) long sets is also = absurd also
one_service a b asked (Err NotFound) y long sets is also = absurd is

one_group : (group : Option KeyGroupPart) (asked : Asked) (x y : Result Keys Refusal) → IsGroupAnswer group asked x → IsGroupAnswer group asked y → keys_text asked.start x ≡ keys_text asked.start y
one_group None asked x y is also = ap (keys_text asked.start) (is ∙ sym also)
one_group (Some group) asked x y is also = one_service is.0 also.0 asked x y (is.1.long ∙ sym also.1.long) (is.1.keys ∙ sym also.1.keys) is.2 also.2

pub one_text : (config : Config) (asked : Asked) (one other : List ℕ) → TellsAnswer config asked one → TellsAnswer config asked other → one ≡ other
one_text config asked one other is also = is.2 ∙ one_group (option_and_then (group_named config.keygroup) asked.group) asked is.0 also.0 is.1 also.1 ∙ sym also.2
