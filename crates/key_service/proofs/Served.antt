-- What is answered of a ring that a service has.
use Rattle.std.proofs.Common.{◌≡◌, ℕ, List, sym, ap, subst, ◌∙◌}
use Rattle.group_keys.specs.declared.key_set.KeySet.{KeySet}
use Rattle.group_keys.specs.declared.ring.Ring.{Ring}
use Rattle.group_keys.specs.Ring.{key_sets, is_long}
use Rattle.key_service.specs.declared.service.Keys.{Keys}
use Rattle.key_service.specs.Answers.{answer}
use Rattle.key_service.specs.Laws.{HasKeysOf, HasKeysOfMoment, IsPulledReadBack, IsReply, IsServedRing}
use Rattle.key_service.specs.Pulled.{as_read, IsPullable}
use Rattle.key_service.proofs.Again.{reply_again}
use Rattle.key_service.proofs.Covered.{covered}
use Rattle.key_service.proofs.Pullable.{current_one, pullable, read_back, reply_of_answer, same_pulled}

pub answer_is_reply : (ring : Ring) (now start count : ℕ) (keys : Keys) → keys ≡ answer ring now start count → IsServedRing ring → IsReply keys
answer_is_reply ring now start count keys is served = subst IsReply (sym is) (reply_of_answer ring now start count served)

pub answer_is_pullable : (ring : Ring) (now start count : ℕ) (keys : Keys) → keys ≡ answer ring now start count → start ≡ 0 → IsServedRing ring → IsPullable keys
answer_is_pullable ring now start count keys is zero_start served =
    subst IsPullable (sym (is ∙ ap (λ (n : ℕ). answer ring now n count) zero_start)) (pullable ring now count served)

pub covered_moments : (ring : Ring) (now count : ℕ) → IsServedRing ring → HasKeysOfMoment ring now count (answer ring now 0 count)
covered_moments ring now count is moment set cover set_is =
    let cur = current_one (is_long ring) (key_sets ring) now is.accepted in
    covered (is_long ring) (key_sets ring) now count moment cur.0 set is.accepted is.served cover cur.1 set_is

pub pulled_read_back : (ring : Ring) (now count : ℕ) → IsServedRing ring → IsPulledReadBack (answer ring now 0 count)
pulled_read_back ring now count is = record {
  read = reply_again (answer ring now 0 count) (reply_of_answer ring now 0 count is);
  pullable = read_back (answer ring now 0 count) (pullable ring now count is);
  sets = same_pulled (answer ring now 0 count);
}

pub covered_read_back : (ring : Ring) (now count : ℕ) → IsServedRing ring → HasKeysOfMoment ring now count (as_read (answer ring now 0 count))
covered_read_back ring now count is moment set cover set_is =
    subst (λ (pulled : List KeySet). HasKeysOf pulled set) (sym (same_pulled (answer ring now 0 count)))
    (covered_moments ring now count is moment set cover set_is)
