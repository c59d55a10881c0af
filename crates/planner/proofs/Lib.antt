pub mod RoomLaws
pub mod KeepLaws
pub mod LazyLaws
pub mod WorkLaws
pub mod AnswerLaws
pub mod PlaceLaws
