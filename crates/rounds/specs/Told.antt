-- The word of a refusal, and what the code tells of one.
use Rattle.std.specs.Prelude.{ℕ, List, codes}
use Rattle.hosts.specs.Refusal as refusals
use Rattle.rounds.specs.declared.refusal.Refusal.{Refusal}
use Rattle.rounds.specs.declared.refusal.Word.{Word}
use Rattle.rounds.specs.declared.refusal.Word.TheVariants.{Lay, Strike, Beat, Run, Read, Map, Shadow, Report, Host, Round, Refused}

abbrev pub word_text : Word → List ℕ
word_text Lay = codes "lay"
word_text Strike = codes "strike"
word_text Beat = codes "beat"
word_text Run = codes "run"
word_text Read = codes "read"
word_text Map = codes "map"
word_text Shadow = codes "shadow"
word_text Report = codes "report"
word_text Host = codes "host"
word_text Round = codes "round"
word_text Refused = codes "refused"

abbrev pub told : Refusal → refusals.Refusal
told r = record { number = r.number; word = word_text r.word; place = r.place }
