use Rattle.std.proofs.Common.{◌≡◌, false, List, map, ap, ◌∙◌, subst}
use Rattle.group_keys.specs.declared.key_set.KeySet.{KeySet}
use Rattle.message_guard.specs.Protection.{keys_in}
use Rattle.session_parts.proofs.renewing.renew_if.Goals as goal
