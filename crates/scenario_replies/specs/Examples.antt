-- Of the code: the texts by their names, and answers computed: of next actions, of queries and of loads.
use Rattle.std.specs.Prelude.{Some, None, Ok, Err, ◌≡◌, refl, [], ◌∷◌, map, get_or}
use Rattle.load_text.specs.Strings.{bytes, same, index_from}
use Rattle.scenario_replies.specs.declared.Text.TheVariants.{Accepted, Loaded, Refused, LoadRefused, BadLine, Quiet, Moved, Launch, StopCommand, Signal, Earliest, NoEarliest}
use Rattle.scenario_replies.specs.Texts.{told, texts, place, places}
use Rattle.scenario_replies.specs.Replies.{reply_of, next_reply, query_reply, load_reply}

-- the names stand where their texts do
pub names_stand : map (λ t. place t.name) told ≡ places
unfolding bytes texts places index_from same
names_stand = refl

-- the texts stand where the definitions say
pub texts_stand : map (λ t. get_or texts (place t) []) (
    Accepted ∷
    Loaded ∷
    Refused ∷
    LoadRefused ∷
    BadLine ∷
    Quiet ∷
    Moved ∷
    Launch ∷
    StopCommand ∷
    Signal ∷
    Earliest ∷
    NoEarliest ∷
    []) ≡ map bytes (
    "ok" ∷
    "ok #" ∷
    "refused #" ∷
    "refused # service # line # column #" ∷
    "bad line #" ∷
    "quiet" ∷
    "moved #" ∷
    "launch #" ∷
    "stop-command #" ∷
    "signal # G" ∷
    "at #" ∷
    "none" ∷
    [])
unfolding bytes texts
texts_stand = refl

-- "signal 4 TERM", which is place 3 of the signals
pub signal_told : next_reply (Ok (Some (record { service = 4; action = 6 }))) ≡ reply_of Signal 4 3
signal_told = refl

pub launch_told : next_reply (Ok (Some (record { service = 4; action = 1 }))) ≡ reply_of Launch 4 0
launch_told = refl

pub quiet_told : next_reply (Ok None) ≡ reply_of Quiet 0 0
quiet_told = refl

pub refusal_told : next_reply (Err 24) ≡ reply_of Refused 24 0
refusal_told = refl

pub none_told : query_reply (Ok None) ≡ reply_of NoEarliest 0 0
none_told = refl

pub load_told : load_reply (Ok 5) ≡ reply_of Loaded 5 0
load_told = refl

pub load_refused : load_reply (Err (record { number = 7; service = 2; line = 3; column = 4 })) ≡ record { text = LoadRefused; numbers = 7 ∷ 2 ∷ 3 ∷ 4 ∷ [] }
load_refused = refl
