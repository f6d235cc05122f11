-- What a refusal says of itself.
use Rattle.std.specs.Prelude.{ℕ, List, codes}
use Rattle.json_frames.specs.declared.json_end.JsonEnd.{JsonEnd}
use Rattle.json_frames.specs.declared.json_end.JsonEnd.TheVariants.{NotJson, NotData, BadPublisher, NoMessages, Memory}

abbrev pub json_end : JsonEnd → List ℕ
json_end NotJson = codes "the bytes are no JSON that can be read"
json_end NotData = codes "the MessageType isn't ua-data"
json_end BadPublisher = codes "the PublisherId isn't a text of at most 256 bytes"
json_end NoMessages = codes "there is no array Messages"
json_end Memory = codes "out of memory"
