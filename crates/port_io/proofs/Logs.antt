-- Lemmas on a list of logs of which one is written.
use Rattle.std.proofs.Common.{◌≡◌, ◌≢◌, ℕ, ◌<◌, List, [], length, map, set, get_or, sym, ap, ◌∙◌, arith, Vec, Global}
use Rattle.std.proofs.lemmas.List.{map-set, length-map, get_or-map, get_or-set_same, get_or-set_other}
use Rattle.std.proofs.Math.Seq.{map-set_same}
use Rattle.port_io.specs.LogRack.{log_of}

abbrev pub Log : Type 0
Log = Vec ℕ Global

-- what the logs hold
abbrev pub items_of : List Log → List (List ℕ)
items_of logs = map (λ log. log.items) logs

pub log_of-set_same : (logs : List Log) (client : ℕ) (log : Log) → client < length logs → log_of (items_of (set logs client log)) client ≡ log.items
log_of-set_same logs client log within =
    ap (λ all. get_or all client []) (map-set (λ (l : Log). l.items) logs client log) ∙ get_or-set_same (items_of logs) client log.items [] (omega (arith, length-map logs (λ (l : Log). l.items)))

pub log_of-set_other : (logs : List Log) (client : ℕ) (log : Log) (other : ℕ) → other ≢ client → log_of (items_of (set logs client log)) other ≡ log_of (items_of logs) other
log_of-set_other logs client log other differs =
    ap (λ all. get_or all other []) (map-set (λ (l : Log). l.items) logs client log) ∙ get_or-set_other (items_of logs) client other log.items [] differs

-- a log is put back that holds what the one that stood there held
pub log_of-set_alike : (logs : List Log) (client : ℕ) (log none : Log) (other : ℕ) → log.items ≡ (get_or logs client none).items
    → log_of (items_of (set logs client log)) other ≡ log_of (items_of logs) other
log_of-set_alike logs client log none other same =
    ap (λ all. get_or all other []) (map-set_same (λ (l : Log). l.items) logs client log none same)

pub log_of-read : (logs : List Log) (client : ℕ) (none : Log) → client < length logs → (get_or logs client none).items ≡ log_of (items_of logs) client
log_of-read logs client none within = sym (get_or-map (λ (l : Log). l.items) logs client none [] within)
