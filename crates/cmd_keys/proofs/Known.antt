-- The keys of an answer are in the ring that is pulled of it.
use Rattle.std.proofs.Common.{◌≡◌, ◌≢◌, ℕ, zero, suc, ◌+◌, ◌<◌, Bool, false, cond, List, [], ◌∷◌, ◌++◌, length, map, get_or, Some, refl, sym, ap, subst, ◌∙◌, eq-eqb, arith}
use Rattle.std.specs.Prelude.{All}
use Rattle.group_keys.specs.declared.key_set.KeySet.{KeySet}
use Rattle.key_service.specs.declared.service.Keys.{Keys}
use Rattle.key_service.specs.Laws.{AreSets, IsReply}
use Rattle.key_service.specs.Pulled.{as_read, from_moment, moment_of, timed_from}
use Rattle.key_service.proofs.Looking.{not_equal}
use Rattle.message_guard.specs.declared.mode.Mode.TheVariants.{Encrypt}
use Rattle.message_guard.specs.Guards.{Setup}
use Rattle.message_guard.specs.Protection.{keys_in, keys_with}
use Rattle.cmd_keys.specs.Opening.{HasLength}
use Rattle.cmd_keys.specs.Texts.{key_line, key_lines, policy_line}
use Rattle.cmd_keys.specs.Trials.{puller_setup}

-- the sets of an answer, one by one
token_at : (long : Bool) (token : ℕ) (sets : List KeySet) → AreSets long token sets → (k : ℕ) (d : KeySet) → k < length sets → (get_or sets k d).token ≡ token + k
token_at long token [] are k d within = absurd (omega (arith, within))
token_at long token (set ∷ sets) are zero d within = are.0.under ∙ omega arith
token_at long token (set ∷ sets) are (suc k) d within = token_at long (token + 1) sets are.1 k d (omega (arith, within)) ∙ omega arith

length_at : (long : Bool) (token : ℕ) (sets : List KeySet) → AreSets long token sets → (k : ℕ) (d : KeySet) → k < length sets → HasLength long (get_or sets k d)
length_at long token [] are k d within = absurd (omega (arith, within))
length_at long token (set ∷ sets) are zero d within = are.0.encrypting
length_at long token (set ∷ sets) are (suc k) d within = length_at long (token + 1) sets are.1 k d (omega (arith, within))

-- keys are found by their tokens, whatever their moments
found_at : (next lifetime index : ℕ) (long : Bool) (token : ℕ) (sets : List KeySet) → AreSets long token sets → (k : ℕ) (d : KeySet) → k < length sets
    → keys_with (map keys_in (timed_from next lifetime index sets)) (get_or sets k d).token ≡ Some (keys_in (get_or sets k d))
found_at next lifetime index long token [] are k d within = absurd (omega (arith, within))
found_at next lifetime index long token (set ∷ sets) are zero d within =
    let rest = keys_with (map keys_in (timed_from next lifetime (index + 1) sets)) set.token in
    ap (λ (b : Bool). cond b (Some (keys_in (from_moment set (moment_of next lifetime index)))) rest) (eq-eqb set.token set.token refl)
found_at next lifetime index long token (set ∷ sets) are (suc k) d within =
    let later = get_or sets k d in
    let inside : k < length sets = omega (arith, within) in
    let token_later : later.token ≡ token + 1 + k = token_at long (token + 1) sets are.1 k d inside in
    let other : set.token ≢ later.token = λ same. omega (arith, same, are.0.under, token_later) in
    let rest = keys_with (map keys_in (timed_from next lifetime (index + 1) sets)) later.token in
    ap (λ (b : Bool). cond b (Some (keys_in (from_moment set (moment_of next lifetime index)))) rest) (not_equal set.token later.token other)
    ∙ found_at next lifetime (index + 1) long (token + 1) sets are.1 k d inside

pub have_length : (keys : Keys) (sets : List KeySet) → sets ≡ keys.keys.items → IsReply keys → All (HasLength keys.long) sets
have_length keys sets is reply = subst (All (HasLength keys.long)) (sym is) (λ k d within. length_at keys.long keys.first keys.keys.items reply.sets k d within)

-- a guard over the sets that are pulled is the puller's
pub is_pullers : (back : Keys) (sets : List KeySet) (setup : Setup) → sets ≡ back.keys.items → setup.keys ≡ map keys_in sets → setup.mode ≡ Encrypt → setup.first_block ≡ 1
    → setup ≡ puller_setup back
is_pullers back sets setup pulled has mode first_block = rw (← pulled, ← has, ← mode, ← first_block) refl

-- the puller that read the keys has each of them under its token
abbrev pub IsKnown : Keys → KeySet → Type 0
IsKnown read set = keys_with (puller_setup read).keys set.token ≡ Some (keys_in set)

pub all_known : (keys read : Keys) → IsReply keys → read ≡ as_read keys → All (IsKnown read) keys.keys.items
all_known keys read reply is = λ k d within.
    let set = get_or keys.keys.items k d in
    ap (λ (r : Keys). keys_with (puller_setup r).keys set.token) is
    ∙ found_at keys.next keys.lifetime 0 keys.long keys.first keys.keys.items reply.sets k d within

-- the lines of keys go by their tokens, whatever their moments
pub same_lines : (opens : Bool) (next lifetime index : ℕ) (sets : List KeySet) → key_lines opens (timed_from next lifetime index sets) ≡ key_lines opens sets
same_lines opens next lifetime index [] = refl
same_lines opens next lifetime index (set ∷ sets) = ap (λ (text : List ℕ). key_line opens set.token ++ text) (same_lines opens next lifetime (index + 1) sets)

pub read_lines : (keys back : Keys) → back ≡ as_read keys → key_lines false back.keys.items ≡ key_lines false keys.keys.items
read_lines keys back is = ap (λ (k : Keys). key_lines false k.keys.items) is ∙ same_lines false keys.next keys.lifetime 0 keys.keys.items

pub read_policy : (keys back : Keys) → back ≡ as_read keys → policy_line back ≡ policy_line keys
unfolding policy_line
read_policy keys back is = ap policy_line is
