-- Contention ends, for every responder that meets the laws of Laws.antt and Candid.antt. Assumes nothing.
use Rattle.link.specs.Responder.{Responder}
use Rattle.link.specs.Laws.{Rules, Lawful}
use Rattle.link.specs.Contention.{Tiebreak, ContentionEnds, OneIsLeft}
use Rattle.link.specs.Candid.{Candid}
use Rattle.link.proofs.Keeping.{keeps, just_one_lem}
use Rattle.link.proofs.Someone.{someone}
use Rattle.link.proofs.Last.{left_over}

module _ (D : Responder) (R : Rules D) (L : Lawful D R) (T : Tiebreak D) (C : Candid D R T) where
  pub contention_ends : ContentionEnds D T
  unfolding ContentionEnds
  contention_ends es P k name since until A =
      record {
        keeps = λ d m n w a b h. keeps D R L T C es P k name since until A n h d m w a b;
        someone = λ x n w a b X h l t. someone D R L T C es P k name since until A x w a b X n h l t;
        just_one = just_one_lem D R L T C es P k name since until A;
      }

  pub one-is_left : OneIsLeft D T
  unfolding OneIsLeft
  one-is_left es P k name n until S = left_over D R L T C es P k name n until S
