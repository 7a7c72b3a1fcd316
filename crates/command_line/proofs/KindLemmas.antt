-- What the kinds of error of a parse stand for.
use Rattle.std.proofs.Common.{◌≡◌, sym, true≢false, inl, inr, List, [], ◌∷◌, Option, Result, Ok, Err, IfOk, IsErr}
use Rattle.std.specs.declared.alloc.AllocError.{AllocError}
use Rattle.clap.specs.Words.{HasKind, IsAmong, Kinds, Row, kind_of}
use Rattle.clap.specs.declared.error.Error.{Error}
use Rattle.clap.specs.declared.error.kind.ErrorKind.{ErrorKind}
use Rattle.clap.specs.declared.error.kind.ErrorKind.TheVariants.{OutOfMemory}
use Rattle.command_line.specs.Requests.{Text, Asked, asked_of}
use Rattle.command_line.specs.Commands.{IsAskedBy, asked_at}
use Rattle.command_line.specs.declared.requests.Request.{Request}

asked_among : (kinds : Kinds) (kind : ErrorKind) (found : Option (Text × List Row)) (asked : Asked) → IsAmong kind kinds → asked ≡ asked_at kind
    → IsAskedBy kinds found asked
asked_among [] kind found asked among is = absurd among
asked_among (x ∷ xs) kind found asked among is = (kind, among, is)

-- a request that an error stands for, where out of memory stands for none
pub asked_by_error : (r : Result Request AllocError) (kinds : Kinds) (found : Option (Text × List Row)) (e : Error) → HasKind kinds e
    → (kind_of e ≡ OutOfMemory → IsErr r) → IfOk r (λ request. asked_of request ≡ asked_at (kind_of e))
    → IfOk r (λ request. IsAskedBy kinds found (asked_of request))
asked_by_error (Err e) kinds found error has memory asked = tt
asked_by_error (Ok request) kinds found error (inl is) memory asked = absurd (true≢false (sym (memory is)))
asked_by_error (Ok request) kinds found error (inr among) memory asked = asked_among kinds (kind_of error) found (asked_of request) among asked
