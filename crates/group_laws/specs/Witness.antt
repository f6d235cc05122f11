-- Three groups, a signed one, a fixed one and one whose frames are longer than its datagrams, each with a read group, and a first turn of each.
use Rattle.std.specs.Prelude.{ℕ, ◌++◌, true, false, List, [], ◌∷◌, codes, map, replicate, Option, Some, None}
use Rattle.ua_values.specs.declared.kind.Kind.TheVariants.{ByteString}
use Rattle.dataset_meta.specs.Metas.{MetaData, meta_of}
use Rattle.message_guard.specs.Senders.{SenderState}
use Rattle.config_tables.specs.declared.publisher.Publisher.TheVariants.{U8}
use Rattle.config_tables.specs.declared.words.Layout.{Layout}
use Rattle.config_tables.specs.declared.words.Layout.TheVariants as layouts
use Rattle.config_tables.specs.declared.words.NumberingWord.TheVariants as numbering
use Rattle.config_tables.specs.declared.words.Policy.TheVariants as policies
use Rattle.config_tables.specs.declared.words.Security.{Security}
use Rattle.config_tables.specs.declared.words.Security.TheVariants as security
use Rattle.ps_config.specs.declared.parts.Config.{Config}
use Rattle.ps_config.specs.declared.parts.GroupPart.{GroupPart}
use Rattle.ps_config.specs.declared.parts.KeyGroupPart.{KeyGroupPart}
use Rattle.ps_config.specs.declared.parts.KeyPart.{KeyPart}
use Rattle.ps_config.specs.declared.parts.ReadGroupPart.{ReadGroupPart}
use Rattle.ps_config.specs.declared.parts.ReaderPart.{ReaderPart}
use Rattle.ps_config.specs.declared.parts.WriterPart.{WriterPart}
use Rattle.ps_config.specs.Rings.{key_set}
use Rattle.writer_group.specs.declared.sampled.Sampled.{Sampled}
use Rattle.writer_group.specs.Turns.{TurnInput, told_of}
use Rattle.reader_group.specs.Plain.{opening}
use Rattle.reader_group.specs.Settings.{setting_by, token_keys}
use Rattle.group_laws.specs.TurnDelivered.{Course, Delivery}

-- a data set with one field, a blob of at most 120 bytes
unfoldable pub blob : MetaData
blob = meta_of (codes "d") (record { name = codes "b"; kind = ByteString; cap = 120 } ∷ []) 1 0 false

unfoldable pub three_key : KeyPart
three_key = record { token = 1; from = 0; signing = replicate 32 0; encrypting = replicate 16 0; nonce = replicate 4 0 }

unfoldable pub three_keys : KeyGroupPart
three_keys = record { name = codes "k"; policy = policies.Aes128; random = replicate 4 0; first_block = 1; used = 0; key = three_key ∷ [] }

-- ---- the parts of each kind

abbrev pub writer_of : List ℕ → ℕ → ℕ → ℕ → WriterPart
writer_of name id offset size = record {
  name = name;
  id = id;
  dataset = 0;
  key_frame_count = 1;
  keep_alive = 0;
  first_number = 0;
  versions = false;
  offset = offset;
  size = size;
}

abbrev pub group_of : List ℕ → ℕ → ℕ → Layout → Security → Option ℕ → WriterPart → GroupPart
group_of name id max_size layout security keygroup writer = record {
  name = name;
  id = id;
  interval = 100;
  max_size = max_size;
  layout = layout;
  security = security;
  keygroup = keygroup;
  version = 0;
  sequence = true;
  message_number = false;
  class_id = None;
  writer = writer ∷ [];
}

abbrev pub reader_of : List ℕ → ℕ → ℕ → ℕ → ReaderPart
reader_of name writer offset size = record {
  name = name;
  writer = writer;
  dataset = 0;
  timeout = 0;
  numbering = numbering.Message;
  offset = offset;
  size = size;
}

abbrev pub read_group_of : List ℕ → ℕ → Layout → Security → Option ℕ → ReaderPart → ReadGroupPart
read_group_of name group layout security keygroup reader = record {
  name = name;
  publisher = U8 5;
  group = group;
  version = 0;
  class_id = None;
  layout = layout;
  security = security;
  keygroup = keygroup;
  reader = reader ∷ [];
}

-- ---- the configuration

unfoldable pub signed_group : GroupPart
signed_group = group_of (codes "g1") 1 1400 layouts.Dynamic security.Sign (Some 0) (writer_of (codes "w1") 1 0 0)

unfoldable pub slotted_group : GroupPart
slotted_group = group_of (codes "g2") 2 1400 layouts.Fixed security.None None (writer_of (codes "w2") 2 7 127)

-- the datagrams of this group have at most 128 bytes
unfoldable pub cut_group : GroupPart
cut_group = group_of (codes "g3") 3 128 layouts.Dynamic security.None None (writer_of (codes "w3") 3 0 0)

unfoldable pub signed_readers : ReadGroupPart
signed_readers = read_group_of (codes "rg1") 1 layouts.Dynamic security.Sign (Some 0) (reader_of (codes "r1") 1 0 0)

unfoldable pub slotted_readers : ReadGroupPart
slotted_readers = read_group_of (codes "rg2") 2 layouts.Fixed security.None None (reader_of (codes "r2") 2 7 127)

unfoldable pub cut_readers : ReadGroupPart
cut_readers = read_group_of (codes "rg3") 3 layouts.Dynamic security.None None (reader_of (codes "r3") 3 0 0)

unfoldable pub three_config : Config
three_config = record {
  publisher = record { id = U8 5; port = 0 };
  dataset = blob ∷ [];
  keygroup = three_keys ∷ [];
  group = signed_group ∷ slotted_group ∷ cut_group ∷ [];
  readgroup = signed_readers ∷ slotted_readers ∷ cut_readers ∷ [];
}

-- the text of the configuration
abbrev pub three_text : List ℕ
three_text =
    codes "[publisher]\nid = \"u8:5\"\n\n"
    ++ codes "[[dataset]]\nname = \"d\"\n[[dataset.field]]\nname = \"b\"\nkind = \"ByteString\"\ncap = 120\n\n"
    ++ codes "[[keygroup]]\nname = \"k\"\npolicy = \"aes128\"\nrandom = \"00000000\"\n[[keygroup.key]]\ntoken = 1\nfrom = 0\n"
    ++ codes "signing = \"0000000000000000000000000000000000000000000000000000000000000000\"\n"
    ++ codes "encrypting = \"00000000000000000000000000000000\"\nnonce = \"00000000\"\n\n"
    ++ codes "[[group]]\nname = \"g1\"\nid = 1\ninterval = 100\nsecurity = \"sign\"\nkeygroup = \"k\"\n"
    ++ codes "[[group.writer]]\nname = \"w1\"\nid = 1\ndataset = \"d\"\n\n"
    ++ codes "[[group]]\nname = \"g2\"\nid = 2\ninterval = 100\nlayout = \"fixed\"\n"
    ++ codes "[[group.writer]]\nname = \"w2\"\nid = 2\ndataset = \"d\"\noffset = 7\nsize = 127\n\n"
    ++ codes "[[group]]\nname = \"g3\"\nid = 3\ninterval = 100\nmax_size = 128\n"
    ++ codes "[[group.writer]]\nname = \"w3\"\nid = 3\ndataset = \"d\"\n\n"
    ++ codes "[[readgroup]]\nname = \"rg1\"\npublisher = \"u8:5\"\ngroup = 1\nsecurity = \"sign\"\nkeygroup = \"k\"\n"
    ++ codes "[[readgroup.reader]]\nname = \"r1\"\nwriter = 1\ndataset = \"d\"\n\n"
    ++ codes "[[readgroup]]\nname = \"rg2\"\npublisher = \"u8:5\"\ngroup = 2\nlayout = \"fixed\"\n"
    ++ codes "[[readgroup.reader]]\nname = \"r2\"\nwriter = 2\ndataset = \"d\"\noffset = 7\nsize = 127\n\n"
    ++ codes "[[readgroup]]\nname = \"rg3\"\npublisher = \"u8:5\"\ngroup = 3\n"
    ++ codes "[[readgroup.reader]]\nname = \"r3\"\nwriter = 3\ndataset = \"d\"\n"

-- ---- the turns

-- the row whose blob is 120 ones, in 125 words, as version 1
unfoldable pub ones : Sampled
ones = record { row = record { words = 120 ∷ replicate 15 0x0101_0101_0101_0101 ++ replicate 109 0 }; version = 1 }

-- a sender of the key group, as it begins
unfoldable pub three_sender : SenderState
three_sender = record {
  sets = map key_set three_keys.key;
  keys = token_keys three_key;
  random = three_keys.random;
  first_block = three_keys.first_block;
  used = three_keys.used;
  fronted = None;
}

-- the turn of the moment 100, at which the group's writer is Operational
abbrev pub first_input : Option SenderState → TurnInput
first_input sender = record { told = told_of 100 false (blob ∷ []) (ones ∷ []); on = true ∷ []; sender = sender }

abbrev pub at_once : Delivery
at_once = record { moment = 100; on = true ∷ [] }

-- a group's first turn, delivered at once to a read group to which nothing came before
abbrev pub first_course : GroupPart → ReadGroupPart → Option SenderState → List Delivery → Course
first_course group readers sender deliveries = record {
  config = three_config;
  group = group;
  past = [];
  input = first_input sender;
  readers = readers;
  before = opening (setting_by three_config readers);
  reader = 0;
  deliveries = deliveries;
}

abbrev pub secured_course : Course
secured_course = first_course signed_group signed_readers (Some three_sender) (at_once ∷ [])

abbrev pub fixed_course : Course
fixed_course = first_course slotted_group slotted_readers None (at_once ∷ [])

-- the frame of the third group comes in two chunks
abbrev pub chunked_course : Course
chunked_course = first_course cut_group cut_readers None (at_once ∷ at_once ∷ [])
